-- Tables that are filled from the front by a rule, and checksums on the way.
--   Tabbed g t₀ t k   the first k places of t are g's, the others as in t₀
--   tabbed_start, tabbed_length, tabbed_more, tabbed_front, tabbed_all
--   fill_next               the number behind a filling's k-th
--   check_next, check_end   one element more, and none left
--   front_false, front_fit   what reading bytes leaves where it is answered false, and where they fit
--   list_none, list_all      what reading numbers leaves where it is answered false, and where it is answered true
--   mesh_first, mesh_both    a mesh of which the coordinates were not read, and one of which they were
use mathlib.Core.Bool.{Bool, true, false}
use mathlib.Core.Path.{◌≡◌, refl, sym, ap, ◌∙◌}
use mathlib.Core.List.{List, [], ◌∷◌, ◌++◌, append_assoc, append-nil}
use Prim.Native.Nat.{ℕ, zero, suc, ◌+◌, ◌*◌, ◌≤◌, ◌<◌}
use native.Mathlib.Numerals.{add-one}
use native.Mathlib.Omega.{arith}
use lib.IntN.{ℤ}
use lib.ListN.{length, get_or, drop, set, length-append, length-drop, drop_of_length-le}
use lib.Seq.{drop-cons, drop-length, set_at}
use Rattle.base.specs.Bools.{not_both}
use Rattle.trial.specs.Pattern.{turned, fill_at, tab_of, check_from}
use Rattle.trial.specs.Input.{word_at, signed_at, FrontRead, ListRead, MeshRead}

module _ {A : Type 0} (g : ℕ → A) where
  length-tab : (n : ℕ) → length (tab_of g n) ≡ n
  unfolding tab_of
  length-tab zero = refl
  length-tab (suc n) = omega (arith, length-append (tab_of g n) (g n ∷ []), length-tab n)

  pub record Tabbed (t₀ t : List A) (k : ℕ) : Type 0 where
    pub within : k ≤ length t₀
    pub table : t ≡ tab_of g k ++ drop k t₀

  module _ (t₀ : List A) where
    pub tabbed_start : Tabbed t₀ t₀ 0
    unfolding tab_of
    tabbed_start = record { within = omega arith; table = refl }

    module _ {t : List A} {k : ℕ} (f : Tabbed t₀ t k) where
      tabbed_length : length t ≡ length t₀
      tabbed_length =
          rw f.table (omega (arith, length-append (tab_of g k) (drop k t₀), length-tab k, length-drop k t₀, f.within))

      pub tabbed_more : (v : A) → k < length t₀ → v ≡ g k → Tabbed t₀ (set t k v) (k + 1)
      unfolding tab_of
      tabbed_more v h e =
          record {
            within = omega arith;
            table =
                rw (f.table, e, add-one k, append_assoc (tab_of g k) (g k ∷ []) (drop (suc k) t₀), drop-cons t₀ k (g k) h)
                (set_at (tab_of g k) (get_or t₀ k (g k)) (drop (suc k) t₀) (g k) k (length-tab k));
          }

      pub tabbed_front : (n : ℕ) → k ≡ n → t ≡ tab_of g n ++ drop n t₀
      tabbed_front n e = f.table ∙ rw e

      pub tabbed_all : length t₀ ≤ k → t ≡ tab_of g (length t₀)
      tabbed_all h =
          let e : k ≡ length t₀ = omega (arith, f.within) in
          f.table ∙ rw (e, drop-length t₀, append-nil)

pub fill_next : (x k : ℕ) → x ≡ fill_at k → turned x 1 ≡ fill_at (k + 1)
unfolding fill_at
fill_next x k e = rw (add-one k) (ap (λ (y : ℕ). turned y 1) e)

module _ {A : Type 0} (f : A → ℕ) (s : ℕ) (l : List A) (i : ℕ) where
  pub check_next : (d : A) (v w t : ℕ) → i < length l → v ≡ f (get_or l i d) → w ≡ turned s v → check_from f s (drop i l) ≡ t
      → check_from f w (drop (i + 1) l) ≡ t
  unfolding check_from
  check_next d v w t h e u p = rw (u, e, add-one i) (sym (rw (drop-cons l i d h)) ∙ p)

  pub check_end : length l ≤ i → check_from f s (drop i l) ≡ s
  unfolding check_from
  check_end h = rw (drop_of_length-le l h)

module _ {n : ℕ} {l l' : List ℕ} where
  pub front_false : drop n l' ≡ drop n l → length l' ≡ length l → FrontRead false n l l'
  front_false e k = record { fit = λ t. not_both false t refl; behind = e; long = k }

  pub front_fit : {r : Bool} → n ≤ length l → drop n l' ≡ drop n l → length l' ≡ length l → FrontRead r n l l'
  front_fit h e k = record { fit = λ t. h; behind = e; long = k }

module _ {A : Type 0} {n : ℕ} (g : ℕ → A) {l : List A} where
  pub list_none : ListRead false n g l l
  list_none = record { fit = λ t. not_both false t refl; list = refl }

  pub list_all : {l' : List A} → n ≤ length l → l' ≡ tab_of g n ++ drop n l → ListRead true n g l l'
  list_all h e = record { fit = λ t. h; list = e }

module _ {f : Bool} {p c : ℕ} {room m : List ℕ} {ps ps' : List ℤ} (a : FrontRead f (4 * p) room m)
    (b : ListRead f p (signed_at m) ps ps') where
  pub mesh_first : {cs : List ℕ} → MeshRead false p c room m ps ps' cs cs
  mesh_first =
      record {
        first = f;
        between = m;
        bytes = a;
        positions = b;
        bytes' = front_false refl refl;
        cells = list_none (word_at m);
        both = λ t. not_both false t refl;
      }

  pub mesh_both : {r : Bool} {room' cs cs' : List ℕ} → f ≡ true → FrontRead r (2 * c) m room' → ListRead r c (word_at room') cs cs'
      → MeshRead r p c room room' ps ps' cs cs'
  mesh_both t d e = record { first = f; between = m; bytes = a; positions = b; bytes' = d; cells = e; both = λ u. t }
