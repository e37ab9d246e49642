-- The masters of entries as a table of keys, the first of them last.
--   masteredb es l             some master among the entries es has the path l
--   MasterKeys es xs ys st n   the n keys of the table are those of the masters of es, with their statuses beside them
--   Mastered es w              the keys of w are so
--   Loaded ds w w'             what putting the masters of ds behind those of w leaves
--   Overfull ds w              they are too many
-- Laws: few_keys, loaded_none, load_start, load_ghost, load_full, load_master (one entry), load_more, load_over (entries before entries).
use Rattle.std.specs.Prelude.{◌≡◌, refl, Bool, true, false, List, [], ◌∷◌, ◌++◌, ℕ, ◌+◌, ◌-◌, ◌/◌, ◌≤◌, ◌<◌, length, get_or, set}
use Rattle.std.proofs.Common.{sym, ◌∙◌, ap, append_assoc, arith, get_or-set_same, get_or-set_other}
use Rattle.std.proofs.Math.Decide.{ℕ_discrete}
use Rattle.base.specs.Limits.{most_cells, most_levels}
use Rattle.base.specs.Lists.{anyb, filterb, sameb, sameb_eq}
use Rattle.base.specs.Places.{sameb_self}
use Rattle.pairs.specs.Keys.{seek, Added, seek_found, seek_same, seek_other}
use Rattle.parts.specs.Held.{Entry}
use Rattle.parts.specs.Merge.{lookup, masters}
use Rattle.merge.specs.declared.masters.Masters.{Masters}
use Rattle.held.specs.Key.{key_path, Key, Keyed, key_same, length-eights}

abbrev pub masteredb : List Entry → List ℕ → Bool
masteredb es l = anyb (λ e. sameb e.path l) (masters es)

pub record MasterKeys (es : List Entry) (xs ys st : List ℕ) (n : ℕ) : Type 0 where
  pub none : (x y : ℕ) → Key x y → seek xs ys x y 0 n ≡ 65535 → masteredb es (key_path x y) ≡ false
  pub some : (x y : ℕ) → Key x y → (seek xs ys x y 0 n ≡ 65535 → ⊥) → (masteredb es (key_path x y) ≡ true)
      × (lookup es (key_path x y) ≡ get_or st (seek xs ys x y 0 n) 0)
  pub long : (l : List ℕ) → most_levels < length l → masteredb es l ≡ false

abbrev pub Mastered : List Entry → Masters → Type 0
Mastered es w = MasterKeys es w.keys.xs w.keys.ys w.statuses w.keys.n

pub record Loaded (ds : List Entry) (w w' : Masters) : Type 0 where
  pub count : w'.keys.n ≡ length (masters ds) + w.keys.n
  pub loaded : (es : List Entry) → Mastered es w → Mastered (ds ++ es) w'

abbrev pub Overfull : List Entry → Masters → Type 0
Overfull ds w = most_cells < length (masters ds) + w.keys.n

pub few_keys : (w : Masters) → w.keys.n ≤ most_cells
few_keys w = omega (arith, w.keys.in_order.in_xs, w.keys.sized.0)

pub loaded_none : (xs ys st : List ℕ) → MasterKeys [] xs ys st 0
unfolding masters filterb anyb seek
loaded_none xs ys st = record { none = λ x y k e. refl; some = λ x y k e. absurd (e refl); long = λ l h. refl }

-- an entry in front
module _ (e : Entry) (es : List Entry) (l : List ℕ) where
  mastered_ghost : e.ghost ≡ true → masteredb (e ∷ es) l ≡ masteredb es l
  unfolding masters filterb
  mastered_ghost g = rw (g, masters, filterb)

  lookup_ghost : e.ghost ≡ true → lookup (e ∷ es) l ≡ lookup es l
  unfolding lookup
  lookup_ghost g = rw (g, lookup)

  mastered_other : e.ghost ≡ false → sameb e.path l ≡ false → masteredb (e ∷ es) l ≡ masteredb es l
  unfolding masters filterb anyb
  mastered_other g s = rw (g, masters, filterb, s)

  lookup_other : e.ghost ≡ false → sameb e.path l ≡ false → lookup (e ∷ es) l ≡ lookup es l
  unfolding lookup
  lookup_other g s = rw (g, s, lookup)

  mastered_here : e.ghost ≡ false → sameb e.path l ≡ true → masteredb (e ∷ es) l ≡ true
  unfolding masters filterb anyb
  mastered_here g s = rw (g, masters, filterb, s)

  lookup_here : e.ghost ≡ false → sameb e.path l ≡ true → lookup (e ∷ es) l ≡ e.status
  unfolding lookup
  lookup_here g s = rw (g, s, lookup)

masters_ghost : (e : Entry) → e.ghost ≡ true → length (masters (e ∷ [])) ≡ 0
unfolding masters filterb
masters_ghost e g = rw (g, masters, filterb)

masters_one : (e : Entry) → e.ghost ≡ false → length (masters (e ∷ [])) ≡ 1
unfolding masters filterb
masters_one e g = rw (g, masters, filterb)

pub masters_append : (ds es : List Entry) → length (masters (ds ++ es)) ≡ length (masters ds) + length (masters es)
unfolding masters filterb
masters_append [] es = omega arith
masters_append (e ∷ ds) es = go e.ghost refl (masters_append ds es)
  where
    go : (b : Bool) → e.ghost ≡ b → length (masters (ds ++ es)) ≡ length (masters ds) + length (masters es)
        → length (masters (e ∷ (ds ++ es))) ≡ length (masters (e ∷ ds)) + length (masters es)
    go true q i = rw (q, masters, filterb) i
    go false q i = rw (q, masters, filterb) (omega (arith, i))

same_not : (l m : List ℕ) → (l ≡ m → ⊥) → sameb l m ≡ false
same_not l m h = go (sameb l m) refl
  where
    go : (b : Bool) → sameb l m ≡ b → sameb l m ≡ false
    go true e = absurd (h (sameb_eq l m (rw e tt)))
    go false e = e

path_short : (x y : ℕ) → Key x y → length (key_path x y) ≤ most_levels
unfolding key_path
path_short x y k = omega (arith, length-eights (x / 256) y, k.level)

pub load_start : (w : Masters) → Loaded [] w w
unfolding masters filterb
load_start w = record { count = omega arith; loaded = λ es l. l }

module _ (e : Entry) (w : Masters) where
  abbrev xs : List ℕ
  xs = w.keys.xs

  abbrev ys : List ℕ
  ys = w.keys.ys

  abbrev st : List ℕ
  st = w.statuses

  abbrev n : ℕ
  n = w.keys.n

  pub load_ghost : e.ghost ≡ true → Loaded (e ∷ []) w w
  load_ghost g =
      record {
        count = omega (arith, masters_ghost e g);
        loaded = λ es l.
            record {
              none = λ x y k q. mastered_ghost e es (key_path x y) g ∙ l.none x y k q;
              some = λ x y k q. let (u, v) = l.some x y k q in
                  (mastered_ghost e es (key_path x y) g ∙ u, lookup_ghost e es (key_path x y) g ∙ v);
              long = λ m h. mastered_ghost e es m g ∙ l.long m h;
            };
      }

  pub load_full : e.ghost ≡ false → most_cells ≤ w.keys.n → Overfull (e ∷ []) w
  load_full g h = omega (arith, masters_one e g)

  pub load_master : e.ghost ≡ false → w.keys.n < most_cells → (v w₁ s : ℕ) → Keyed e.path v w₁ → s ≡ e.status → (w' : Masters)
      → Added w.keys.xs w.keys.ys w.keys.n v w₁ w'.keys.xs w'.keys.ys w'.keys.heads w'.keys.links → w'.keys.n ≡ w.keys.n + 1
      → w'.statuses ≡ set w.statuses w.keys.n s → Loaded (e ∷ []) w w'
  load_master g few v w₁ s key q w' a more stored =
      record {
        count = omega (arith, masters_one e g);
        loaded = λ es l. rw (a.xs_is, a.ys_is, more, stored) (with_one es l);
      }
    where
      in_xs : n < length xs
      in_xs = omega (arith, w.keys.sized.0)

      in_ys : n < length ys
      in_ys = omega (arith, w.keys.sized.1)

      same_here : (x y : ℕ) → Key x y → x ≡ v → y ≡ w₁ → seek (set xs n v) (set ys n w₁) x y 0 (n + 1) ≡ n
      same_here x y k i j =
          let z : n + 1 - 0 ≡ n + 1 = omega arith in
          rw (i, j) (rw z at (seek_same xs ys n in_xs in_ys v w₁ 0 (omega arith)))

      other : (x y : ℕ) → (v ≡ x → w₁ ≡ y → ⊥) → seek (set xs n v) (set ys n w₁) x y 0 (n + 1) ≡ seek xs ys x y 0 n
      other x y d =
          let z : n + 1 - 0 ≡ n + 1 = omega arith in
          let i : n - 0 ≡ n = omega arith in
          rw (z, i) at (seek_other xs ys n in_xs in_ys x y 0 (omega arith) v w₁ d)

      named : (x y : ℕ) → x ≡ v → y ≡ w₁ → sameb e.path (key_path x y) ≡ true
      named x y i j = rw (i, j, key.path) (sameb_self e.path)

      differs : (x y : ℕ) → Key x y → (v ≡ x → w₁ ≡ y → ⊥) → sameb e.path (key_path x y) ≡ false
      differs x y k d =
          same_not e.path (key_path x y) (λ z. let (i, j) = key_same v w₁ x y key.key k (key.path ∙ z) in d i j)

      Outcome : List Entry → ℕ → ℕ → Type 0
      Outcome es x y =
          (seek (set xs n v) (set ys n w₁) x y 0 (n + 1) ≡ 65535 → masteredb (e ∷ es) (key_path x y) ≡ false)
          × ((seek (set xs n v) (set ys n w₁) x y 0 (n + 1) ≡ 65535 → ⊥) → (masteredb (e ∷ es) (key_path x y) ≡ true)
          × (lookup (e ∷ es) (key_path x y) ≡ get_or (set st n s) (seek (set xs n v) (set ys n w₁) x y 0 (n + 1)) 0))

      found : (es : List Entry) → MasterKeys es xs ys st n → (x y : ℕ) → Key x y → x ≡ v → y ≡ w₁ → Outcome es x y
      found es l x y k i j = (
        (λ z. absurd (omega (arith, same_here x y k i j))),
        (λ z. (
          mastered_here e es (key_path x y) g (named x y i j),
          lookup_here e es (key_path x y) g (named x y i j) ∙ sym q ∙ sym (rw (same_here x y k i j)
              (get_or-set_same st n s 0 (omega (arith, w.sized)))),
        )),
      )

      passed : (es : List Entry) → MasterKeys es xs ys st n → (x y : ℕ) → Key x y → (v ≡ x → w₁ ≡ y → ⊥) → Outcome es x y
      passed es l x y k d = (
        (λ z. mastered_other e es (key_path x y) g (differs x y k d) ∙ l.none x y k (sym (other x y d) ∙ z)),
        (λ z.
            let z' : seek xs ys x y 0 n ≡ 65535 → ⊥ = λ i. z (other x y d ∙ i) in
            let (u, t) = l.some x y k z' in
            let f = seek_found xs ys x y 0 n z' in (
              mastered_other e es (key_path x y) g (differs x y k d) ∙ u,
              lookup_other e es (key_path x y) g (differs x y k d) ∙ t ∙ sym (rw (other x y d)
                  (get_or-set_other st n (seek xs ys x y 0 n) s 0 (λ i. omega (arith, f.below)))),
            )),
      )

      outcome : (es : List Entry) → MasterKeys es xs ys st n → (x y : ℕ) → Key x y → Outcome es x y
      outcome es l x y k = elim (ℕ_discrete x v) [
        | yes i ↦ elim (ℕ_discrete y w₁) [
          | yes j ↦ found es l x y k i j
          | no j ↦ passed es l x y k (λ p q. j (sym q))
        ]
        | no i ↦ passed es l x y k (λ p q. i (sym p))
      ]

      with_one : (es : List Entry) → MasterKeys es xs ys st n → MasterKeys (e ∷ es) (set xs n v) (set ys n w₁) (set st n s) (n + 1)
      with_one es l =
          record {
            none = λ x y k. (outcome es l x y k).0;
            some = λ x y k. (outcome es l x y k).1;
            long = λ m h. mastered_other e es m g (same_not e.path m (λ z. omega (
              arith,
              ap length z,
              ap length key.path,
              path_short v w₁ key.key,
            ))) ∙ l.long m h;
          }

-- entries before entries
module _ (ds cs : List Entry) (w v : Masters) (f : Loaded ds w v) where
  pub load_more : (u : Masters) → Loaded cs v u → Loaded (cs ++ ds) w u
  load_more u g =
      record {
        count = omega (arith, g.count, f.count, masters_append cs ds);
        loaded = λ es l. rw (append_assoc cs ds es) (g.loaded (ds ++ es) (f.loaded es l));
      }

  pub load_over : Overfull cs v → Overfull (cs ++ ds) w
  load_over h = omega (arith, f.count, masters_append cs ds)
