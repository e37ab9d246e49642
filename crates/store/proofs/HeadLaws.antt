-- Laws of the header's tests: a header that does not fit, and the results of a step that is done.
use Rattle.std.specs.Prelude.{◌≡◌, true, false, ◌||◌, List, ℕ, ◌+◌, ◌*◌, eqb}
use Rattle.std.proofs.Common.{sym, ◌∙◌, arith}
use borrow.Author.Tests.{eq-eqb, ne_eqb}
use Rattle.store.specs.Fields.{field, STAGE, LEVELS, ROUND, RESULT}
use Rattle.store.specs.Header.{stageb, headerb}
use Rattle.store.specs.Headed.{Header, bool_false, header_is, done_is}

module _ (x : List ℕ) where
  pub header_no : (Header x → ⊥) → false ≡ headerb x
  header_no h = bool_false (headerb x) (λ t. h (header_is x t))

  pub done_no : field x STAGE ≡ 2 → (field x ROUND ≡ 2 * field x LEVELS + 1 → ⊥) → false ≡ stageb x
  unfolding stageb
  done_no e h = rw (
    ne_eqb (field x STAGE) 0 (λ z. omega arith),
    ne_eqb (field x STAGE) 1 (λ z. omega arith),
    eq-eqb (field x STAGE) 2 e,
    ne_eqb (field x ROUND) (2 * field x LEVELS + 1) h,
    stageb,
  )

  pub done_first : field x STAGE ≡ 2 → field x ROUND ≡ 2 * field x LEVELS + 1 → field x RESULT ≡ 0 → true ≡ stageb x
  done_first e h r = let z : (eqb (field x RESULT) 0 || (eqb (field x RESULT) 8 || eqb (field x RESULT) 9)) ≡ true =
      rw (eq-eqb (field x RESULT) 0 r) in sym z ∙ done_is x e h

  pub done_second : field x STAGE ≡ 2 → field x ROUND ≡ 2 * field x LEVELS + 1 → (field x RESULT ≡ 0 → ⊥) → field x RESULT ≡ 8
      → true ≡ stageb x
  done_second e h n r = let z : (eqb (field x RESULT) 0 || (eqb (field x RESULT) 8 || eqb (field x RESULT) 9)) ≡ true =
      rw (ne_eqb (field x RESULT) 0 n, eq-eqb (field x RESULT) 8 r) in sym z ∙ done_is x e h

  pub done_third : field x STAGE ≡ 2 → field x ROUND ≡ 2 * field x LEVELS + 1 → (field x RESULT ≡ 0 → ⊥) → (field x RESULT ≡ 8 → ⊥)
      → eqb (field x RESULT) 9 ≡ stageb x
  done_third e h n r = let z : (eqb (field x RESULT) 0 || (eqb (field x RESULT) 8 || eqb (field x RESULT) 9)) ≡ eqb (field x RESULT) 9 =
      rw (ne_eqb (field x RESULT) 0 n, ne_eqb (field x RESULT) 8 r) in sym z ∙ done_is x e h
