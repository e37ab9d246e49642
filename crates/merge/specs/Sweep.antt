-- The table that entries make (rule 15.12), cell by cell: the cells that are known stand in a row as keys, those of this level first.
--   kid_paths l t             the paths of the children of a cell with the path l and the status t
--   statuses_left h es c a    the statuses still to come, of the cells c of the level at hand and of those behind; a the first of these
--   filled_left h es c a      each of these places has a master
--   paths_at px py k m        the paths of the m keys from k on
--   Sweep es m ..            the statuses of the first c cells are found, and e keys are known
--   KeyRow px py c e         the cells from c to e have keys
--   Failed es m              the entries es make no table of a mesh
-- Laws: sweep_start, sweep_on (one cell), sweep_out (all), and what fails: no_master, no_status, no_room, no_level_lem.
use Rattle.std.specs.Prelude.{◌≡◌, Bool, ◌&&◌, get_or, set}
use Rattle.std.proofs.Math.Path.{refl, ap}
use Rattle.std.proofs.Common.{sym, ◌∙◌, ap₂, add-zero, take-suc-set, length-take-le}
use Rattle.std.proofs.Math.Bool.{true, false}
use mathlib.Core.List.{List, [], ◌∷◌, ◌++◌, map, flatten, append_assoc, append-nil}
use Prim.Native.Nat.{ℕ, zero, suc, ◌+◌, ◌-◌, ◌*◌, ◌/◌, ◌^◌, ◌≤◌, ◌<◌}
use Rattle.std.proofs.Math.Decide.{ℕ_discrete, dec_lt}
use native.Mathlib.Omega.{arith}
use Rattle.std.proofs.Math.Dec.{T, leb}
use Rattle.std.proofs.Math.ListN.{length, take, length-append, length-map}
use Rattle.std.proofs.lemmas.Bool.{lt-leb}
use Rattle.base.specs.Bools.{not_both, is_true, and_left, and_right}
use Rattle.base.specs.Limits.{most_cells, most_coarse_cells, most_levels}
use Rattle.base.specs.Lists.{allb}
use Rattle.base.specs.Range.{range, length-range}
use Rattle.mesh.specs.Table.{soundb, size_of}
use Rattle.tables.specs.Finish.{unsound_long, unsound_status}
use Rattle.parts.specs.Held.{Entry}
use Rattle.parts.specs.Merge.{lookup, child_paths, gather, merged, filledb, completeb}
use Rattle.held.specs.Key.{key_path, Key, Keyed, key_child, key_coarse, length-eights}
use Rattle.merge.specs.Load.{masteredb}

abbrev kid_paths : List ℕ → ℕ → List (List ℕ)
kid_paths l t = map (λ i. l ++ (i ∷ [])) (range 0 (size_of t))

module _ (es : List Entry) where
  unfoldable pub statuses_left : ℕ → List (List ℕ) → List (List ℕ) → List ℕ
  statuses_left h cur next = map (lookup es) cur ++ flatten (gather h es (next ++ child_paths cur (map (lookup es) cur)))

  unfoldable pub filled_left : ℕ → List (List ℕ) → List (List ℕ) → Bool
  filled_left h cur next = allb (masteredb es) cur && filledb h es (next ++ child_paths cur (map (lookup es) cur))

  gather_nil : (h : ℕ) → gather h es [] ≡ []
  unfolding gather
  gather_nil zero = refl
  gather_nil (suc h) = refl

  filled_nil : (h : ℕ) → filledb h es [] ≡ true
  unfolding filledb
  filled_nil zero = refl
  filled_nil (suc h) = refl

  level_table : (h : ℕ) (ls : List (List ℕ)) → flatten (gather (suc h) es ls) ≡ statuses_left h ls []
  unfolding gather statuses_left flatten child_paths
  level_table h [] = rw (gather_nil h)
  level_table h (l ∷ ls) = refl

  level_filled : (h : ℕ) (ls : List (List ℕ)) → filledb (suc h) es ls ≡ filled_left h ls []
  unfolding filledb filled_left child_paths allb
  level_filled h [] = rw (filled_nil h)
  level_filled h (l ∷ ls) = refl

  one_table : (h : ℕ) (l : List ℕ) (cur next : List (List ℕ))
      → statuses_left h (l ∷ cur) next ≡ lookup es l ∷ statuses_left h cur (next ++ kid_paths l (lookup es l))
  unfolding statuses_left child_paths
  one_table h l cur next = rw (append_assoc next (kid_paths l (lookup es l)) (child_paths cur (map (lookup es) cur)))

  and_assoc : (a b c : Bool) → (a && b) && c ≡ a && (b && c)
  and_assoc true b c = refl
  and_assoc false b c = refl

  one_filled : (h : ℕ) (l : List ℕ) (cur next : List (List ℕ))
      → filled_left h (l ∷ cur) next ≡ masteredb es l && filled_left h cur (next ++ kid_paths l (lookup es l))
  unfolding filled_left child_paths allb
  one_filled h l cur next =
      rw (append_assoc next (kid_paths l (lookup es l)) (child_paths cur (map (lookup es) cur)))
      (and_assoc (masteredb es l) (allb (masteredb es) cur) (filledb h es (next ++
      (kid_paths l (lookup es l) ++ child_paths cur (map (lookup es) cur)))))

  turn_table : (h : ℕ) (next : List (List ℕ)) → statuses_left (suc h) [] next ≡ statuses_left h next []
  unfolding child_paths statuses_left flatten
  turn_table h next = start h next ∙ level_table h next
    where
      start : (h : ℕ) (next : List (List ℕ)) → statuses_left (suc h) [] next ≡ flatten (gather (suc h) es next)
      start h next = rw (statuses_left, append-nil next)

  turn_filled : (h : ℕ) (next : List (List ℕ)) → filled_left (suc h) [] next ≡ filled_left h next []
  unfolding child_paths allb filled_left filledb
  turn_filled h next = start h next ∙ level_filled h next
    where
      start : (h : ℕ) (next : List (List ℕ)) → filled_left (suc h) [] next ≡ filledb (suc h) es next
      start h next = rw (filled_left, append-nil next)

  out_table : (h : ℕ) → statuses_left h [] [] ≡ []
  unfolding statuses_left child_paths flatten
  out_table h = rw (gather_nil h)

  out_filled : (h : ℕ) → filled_left h [] [] ≡ true
  unfolding filled_left child_paths allb
  out_filled h = filled_nil h

  -- how many there are at least
  gather_long : (h : ℕ) (ls : List (List ℕ)) → length ls ≤ length (flatten (gather (suc h) es ls))
  unfolding gather flatten
  gather_long h [] = omega arith
  gather_long h (l ∷ ls) =
      let ts : List ℕ = map (lookup es) (l ∷ ls) in
      omega (arith, length-append ts (flatten (gather h es (child_paths (l ∷ ls) ts))), length-map ls (lookup es))

  rest_long : (h : ℕ) (cur next : List (List ℕ)) → length cur + length next ≤ length (statuses_left (suc h) cur next)
  unfolding statuses_left
  rest_long h cur next =
      let up : List (List ℕ) = next ++ child_paths cur (map (lookup es) cur) in
      omega (
        arith,
        length-append (map (lookup es) cur) (flatten (gather (suc h) es up)),
        length-map cur (lookup es),
        gather_long h up,
        length-append next (child_paths cur (map (lookup es) cur)),
      )

  -- the next level has masters
  filled_first : (h : ℕ) (ls : List (List ℕ)) → T (filledb (suc h) es ls) → T (allb (masteredb es) ls)
  unfolding filledb allb
  filled_first h [] t = tt
  filled_first h (l ∷ ls) t =
      and_left (allb (masteredb es) (l ∷ ls)) (filledb h es (child_paths (l ∷ ls) (map (lookup es) (l ∷ ls)))) t

  rest_first : (h : ℕ) (cur next : List (List ℕ)) → T (filled_left (suc h) cur next)
      → T (allb (masteredb es) (next ++ child_paths cur (map (lookup es) cur)))
  unfolding filled_left
  rest_first h cur next t =
      filled_first h (next ++ child_paths cur (map (lookup es) cur))
      (and_right (allb (masteredb es) cur) (filledb (suc h) es (next ++ child_paths cur (map (lookup es) cur))) t)

all_front : {A : Type 0} (f : A → Bool) (l m : List A) → T (allb f (l ++ m)) → T (allb f l)
unfolding allb
all_front f [] m t = tt
all_front f (x ∷ l) m t =
    and_intro (f x) (allb f l) (and_left (f x) (allb f (l ++ m)) t) (all_front f l m (and_right (f x) (allb f (l ++ m)) t))
  where
    and_intro : (a b : Bool) → T a → T b → T (a && b)
    and_intro true b s t = t
    and_intro false b s t = absurd s

all_back : {A : Type 0} (f : A → Bool) (l m : List A) → T (allb f (l ++ m)) → T (allb f m)
unfolding allb
all_back f [] m t = t
all_back f (x ∷ l) m t = all_back f l m (and_right (f x) (allb f (l ++ m)) t)

-- keys in a row
abbrev pub path_in : List ℕ → List ℕ → ℕ → List ℕ
path_in px py i = key_path (get_or px i 0) (get_or py i 0)

abbrev pub paths_at : List ℕ → List ℕ → ℕ → ℕ → List (List ℕ)
paths_at px py k m = map (path_in px py) (range k m)

paths_append : (px py : List ℕ) (k m n : ℕ) → paths_at px py k (m + n) ≡ paths_at px py k m ++ paths_at px py (k + m) n
unfolding range
paths_append px py k zero n = let z : 0 + n ≡ n = omega arith in rw (z, add-zero k)
paths_append px py k (suc m) n =
    let z : suc m + n ≡ suc (m + n) = omega arith in
    let w : k + suc m ≡ suc k + m = omega arith in
    rw (z, w) (ap (λ (l : List (List ℕ)). path_in px py k ∷ l) (paths_append px py (suc k) m n))

paths_by : (f : ℕ → List ℕ) (px py : List ℕ) (j k m : ℕ) → ((i : ℕ) → i < m → path_in px py (k + i) ≡ f (j + i))
    → paths_at px py k m ≡ map f (range j m)
unfolding range
paths_by f px py j k zero h = refl
paths_by f px py j k (suc m) h =
    ap₂ ◌∷◌ (ap (path_in px py) (sym (add-zero k)) ∙ h 0 (omega arith) ∙ ap f (add-zero j))
    (paths_by f px py (suc j) (suc k) m (λ i l.
    let a : suc k + i ≡ k + suc i = omega arith in
    let b : suc j + i ≡ j + suc i = omega arith in
    rw (a, b) (h (suc i) (omega arith))))

length-paths : (px py : List ℕ) (k m : ℕ) → length (paths_at px py k m) ≡ m
length-paths px py k m = length-map (range k m) (path_in px py) ∙ length-range k m

abbrev pub coarse_paths : ℕ → List (List ℕ)
coarse_paths m = map (λ i. i ∷ []) (range 0 m)

pub record Sweep (es : List Entry) (m : ℕ) (px py st : List ℕ) (c e : ℕ) : Type 0 where
  pub h : ℕ
  pub last : ℕ
  pub under : c ≤ last
  pub above : last ≤ e
  pub keys : (i : ℕ) → c ≤ i → i < e → Key (get_or px i 0) (get_or py i 0)
  pub low : (i : ℕ) → c ≤ i → i < last → get_or px i 0 / 256 + h ≡ 11
  pub high : (i : ℕ) → last ≤ i → i < e → get_or px i 0 / 256 + h ≡ 12
  pub table : flatten (merged es m) ≡ take c st ++ statuses_left es h (paths_at px py c (last - c)) (paths_at px py last (e - last))
  pub filled : filledb 12 es (coarse_paths m) ≡ filled_left es h (paths_at px py c (last - c)) (paths_at px py last (e - last))

-- the row begins with the coarse cells
pub record Seeded (px py : List ℕ) (m : ℕ) : Type 0 where
  pub heads : (i : ℕ) → i < m → get_or px i 0 ≡ i
  pub digits : (i : ℕ) → i < m → get_or py i 0 ≡ 0

-- the keys of the cells from c to e
pub record KeyRow (px py : List ℕ) (c e : ℕ) : Type 0 where
  pub keys : (i : ℕ) → c ≤ i → i < e → Key (get_or px i 0) (get_or py i 0)

-- children are put behind the row
pub record Pushed (px py : List ℕ) (e x y size : ℕ) (px' py' : List ℕ) : Type 0 where
  pub old_heads : (i : ℕ) → i < e → get_or px' i 0 ≡ get_or px i 0
  pub old_digits : (i : ℕ) → i < e → get_or py' i 0 ≡ get_or py i 0
  pub heads : (i : ℕ) → i < size → get_or px' (e + i) 0 ≡ x + 256
  pub digits : (i : ℕ) → i < size → get_or py' (e + i) 0 ≡ y + i * 2 ^ (3 * (x / 256))

abbrev pub Failed : List Entry → ℕ → Type 0
Failed es m = (n : ℕ) (qs : List (List ℕ)) → T (completeb es m) → T (soundb n qs (flatten (merged es m))) → ⊥

module _ (es : List Entry) (m : ℕ) where
  complete_filled : T (completeb es m) → T (filledb 12 es (coarse_paths m))
  unfolding completeb
  complete_filled t = and_left (filledb 12 es (coarse_paths m)) _ t

  pub sweep_start : (px py st : List ℕ) → m ≤ most_coarse_cells → Seeded px py m → Sweep es m px py st 0 m
  unfolding merged range
  sweep_start px py st few s =
      let z : m - 0 ≡ m = omega arith in
      let w : m - m ≡ 0 = omega arith in
      let q : paths_at px py 0 m ≡ coarse_paths m =
      paths_by (λ i. i ∷ []) px py 0 0 m (λ i l.
      let a : 0 + i ≡ i = omega arith in
      rw (a, s.heads i l, s.digits i l) (key_coarse i (omega arith)).path) in
      record {
        h = 11;
        last = m;
        under = omega arith;
        above = omega arith;
        keys = λ i a b. rw (s.heads i b, s.digits i b) (key_coarse i (omega arith)).key;
        low = λ i a b. omega (arith, s.heads i b);
        high = λ i a b. absurd (omega arith);
        table = rw (z, w, q) (level_table es 11 (coarse_paths m));
        filled = rw (z, w, q) (level_filled es 11 (coarse_paths m));
      }

  module _ (px py st : List ℕ) (c e : ℕ) where
    pub sweep_out : Sweep es m px py st c e → e ≤ c → (flatten (merged es m) ≡ take c st) × (filledb 12 es (coarse_paths m) ≡ true)
    unfolding range
    sweep_out s g =
        let a : s.last - c ≡ 0 = omega (arith, s.under, s.above) in
        let b : e - s.last ≡ 0 = omega (arith, s.under, s.above) in
        (s.table ∙ rw (a, b, out_table es s.h, append-nil (take c st)), s.filled ∙ rw (a, b, out_filled es s.h))

    -- a level ends where its last cell does
    turned : (s : Sweep es m px py st c e) → c < e → (t : Sweep es m px py st c e) × (c < t.last)
    unfolding range
    turned s g = elim (ℕ_discrete c s.last) [ yes i ↦ go i s.h refl | no i ↦ (s, omega (arith, s.under)) ]
      where
        go : c ≡ s.last → (h : ℕ) → s.h ≡ h → (t : Sweep es m px py st c e) × (c < t.last)
        go i zero q = absurd (omega (arith, s.high c (omega arith) g, (s.keys c (omega arith) g).level))
        go i (suc h) q =
            let a : s.last - c ≡ 0 = omega arith in
            let b : e - e ≡ 0 = omega arith in
            let d : e - s.last ≡ e - c = omega arith in (
              record {
                h = h;
                last = e;
                under = omega arith;
                above = omega arith;
                keys = s.keys;
                low = λ j u v. omega (arith, s.high j (omega arith) v);
                high = λ j u v. absurd (omega arith);
                table = s.table ∙ rw (a, b, d, q, ← i) (ap (λ (l : List ℕ). take c st ++ l) (turn_table es h (paths_at px py c (e - c))));
                filled = s.filled ∙ rw (a, b, d, q, ← i) (turn_filled es h (paths_at px py c (e - c)));
              },
              g,
            )

    module _ (s : Sweep es m px py st c e) (g : c < s.last) where
      abbrev cell : List ℕ
      cell = path_in px py c

      abbrev rest : List (List ℕ)
      rest = paths_at px py (suc c) (s.last - suc c)

      abbrev known : List (List ℕ)
      known = paths_at px py s.last (e - s.last)

      first : paths_at px py c (s.last - c) ≡ cell ∷ rest
      unfolding range
      first = let z : s.last - c ≡ suc (s.last - suc c) = omega arith in rw z

      table_here : flatten (merged es m) ≡ take c st ++ (lookup es cell ∷ statuses_left es s.h rest
          (known ++ kid_paths cell (lookup es cell)))
      table_here = s.table ∙ rw first (ap (λ (l : List ℕ). take c st ++ l) (one_table es s.h cell rest known))

      filled_here : filledb 12 es (coarse_paths m) ≡ masteredb es cell && filled_left es s.h rest (known ++ kid_paths cell (lookup es cell))
      filled_here = s.filled ∙ rw first (one_filled es s.h cell rest known)

      on_here : (x y z size : ℕ) (px' py' : List ℕ) → x ≡ get_or px c 0 → y ≡ get_or py c 0 → masteredb es cell ≡ true → z ≡ lookup es cell
          → c < length st → size ≡ size_of z → size ≤ 8 → (0 < size → x / 256 < 10) → Pushed px py e x y size px' py'
          → Sweep es m px' py' (set st c z) (suc c) (e + size)
      on_here x y z size px' py' xe ye t ze in_st sz few deep p =
          record {
            h = s.h;
            last = s.last;
            under = g;
            above = omega (arith, s.above);
            keys = λ i a b. elim (dec_lt i e) [
              | yes l ↦ rw (p.old_heads i l, p.old_digits i l) (s.keys i (omega arith) l)
              | no l ↦
                  let j : e + (i - e) ≡ i = omega arith in
                  rw j at (key_new (i - e) (omega arith))
            ];
            low = λ i a b. rw (p.old_heads i (omega (arith, s.above))) (s.low i (omega arith) b);
            high = λ i a b. elim (dec_lt i e) [
              | yes l ↦ rw (p.old_heads i l) (s.high i a l)
              | no l ↦
                  let j : e + (i - e) ≡ i = omega arith in
                  rw j at (level_new (i - e) (omega arith))
            ];
            table = table_here ∙ rw (take-suc-set st c z in_st, append_assoc (take c st) (z ∷ []), ← ze, rest_is, known_is);
            filled = filled_here ∙ rw (t, ← ze, rest_is, known_is);
          }
        where
          own : Key x y
          own = rw (xe, ye) (s.keys c (omega arith) (omega (arith, s.above)))

          child : (i : ℕ) → i < size → Keyed (key_path x y ++ (i ∷ [])) (x + 256) (y + i * 2 ^ (3 * (x / 256)))
          child i l = key_child x y i own (deep (omega arith)) (omega arith)

          key_new : (i : ℕ) → i < size → Key (get_or px' (e + i) 0) (get_or py' (e + i) 0)
          key_new i l = rw (p.heads i l, p.digits i l) (child i l).key

          level_new : (i : ℕ) → i < size → get_or px' (e + i) 0 / 256 + s.h ≡ 12
          level_new i l = omega (arith, p.heads i l, s.low c (omega arith) g)

          rest_is : paths_at px' py' (suc c) (s.last - suc c) ≡ rest
          rest_is = paths_by (path_in px py) px' py' (suc c) (suc c) (s.last - suc c) (λ i l.
              rw (p.old_heads (suc c + i) (omega (arith, s.above)), p.old_digits (suc c + i) (omega (arith, s.above))))

          known_is : paths_at px' py' s.last (e + size - s.last) ≡ known ++ kid_paths cell z
          known_is =
              let a : e + size - s.last ≡ (e - s.last) + size = omega (arith, s.above) in
              let b : s.last + (e - s.last) ≡ e = omega (arith, s.above) in
              rw a (paths_append px' py' s.last (e - s.last) size ∙ ap₂ ◌++◌
              (paths_by (path_in px py) px' py' s.last s.last (e - s.last) (λ i l.
              rw (p.old_heads (s.last + i) (omega arith), p.old_digits (s.last + i) (omega arith))))
              (rw b (rw sz (paths_by (λ i. cell ++ (i ∷ [])) px' py' 0 e (size_of z) (λ i l.
              let k : i < size = omega arith in
              let o : 0 + i ≡ i = omega arith in
              rw (o, p.heads i k, p.digits i k) ((child i k).path ∙ rw (xe, ye)))))))

      out_here : masteredb es cell ≡ false → Failed es m
      out_here t n qs u v =
          let w : filledb 12 es (coarse_paths m) ≡ false = filled_here ∙ rw t in
          not_both (filledb 12 es (coarse_paths m)) (is_true (filledb 12 es (coarse_paths m)) (complete_filled u)) w

      status_here : 64 < lookup es cell → Failed es m
      unfolding allb
      status_here h n qs u v =
          let a : allb (λ x. leb x 64) (flatten (merged es m)) ≡ false =
          ap (allb (λ x. leb x 64)) table_here
          ∙ all_not (λ x. leb x 64) (take c st) (lookup es cell) _ (lt-leb (lookup es cell) 64 h) in
          not_both (soundb n qs (flatten (merged es m))) (is_true (soundb n qs (flatten (merged es m))) v)
          (unsound_status n qs (flatten (merged es m)) a)
        where
          and_no : (b : Bool) → b && false ≡ false
          and_no true = refl
          and_no false = refl

          all_not : (f : ℕ → Bool) (l : List ℕ) (x : ℕ) (k : List ℕ) → f x ≡ false → allb f (l ++ (x ∷ k)) ≡ false
          all_not f [] x k q = rw q
          all_not f (y ∷ l) x k q = rw (all_not f l x k q) (and_no (f y))

      room_here : c < length st → most_cells < e + size_of (lookup es cell) → Failed es m
      room_here in_st h n qs u v = go s.h refl
        where
          go : (k : ℕ) → s.h ≡ k → ⊥
          go zero q = omega (arith, s.low c (omega arith) g, (s.keys c (omega arith) (omega (arith, s.above))).level)
          go (suc k) q =
              let r : List ℕ = statuses_left es (suc k) rest (known ++ kid_paths cell (lookup es cell)) in
              let w : flatten (merged es m) ≡ take c st ++ (lookup es cell ∷ r) = rw q at table_here in
              let a : length (flatten (merged es m)) ≡ length (take c st) + suc (length r) =
              ap length w ∙ length-append (take c st) (lookup es cell ∷ r) in
              let b : length (kid_paths cell (lookup es cell)) ≡ size_of (lookup es cell) =
              length-map (range 0 (size_of (lookup es cell))) (λ i. cell ++ (i ∷ [])) ∙ length-range 0 (size_of (lookup es cell)) in
              let d : most_cells < length (flatten (merged es m)) =
              omega (
                arith,
                length-take-le c st (omega arith),
                rest_long es k rest (known ++ kid_paths cell (lookup es cell)),
                length-append known (kid_paths cell (lookup es cell)),
                length-paths px py (suc c) (s.last - suc c),
                length-paths px py s.last (e - s.last),
                s.above,
              ) in
              not_both (soundb n qs (flatten (merged es m))) (is_true (soundb n qs (flatten (merged es m))) v)
              (unsound_long n qs (flatten (merged es m)) d)

      level_here : ((l : List ℕ) → most_levels < length l → masteredb es l ≡ false) → 10 ≤ get_or px c 0 / 256 → 0 < size_of (lookup es cell)
          → Failed
          es m
      unfolding key_path range allb
      level_here long deep some n qs u v = go s.h refl
        where
          size_one : (k : ℕ) → size_of (lookup es cell) ≡ suc k → T (allb (masteredb es) (kid_paths cell (lookup es cell))) → ⊥
          size_one k q t =
              let w : T (allb (masteredb es) (map (λ i. cell ++ (i ∷ [])) (range 0 (suc k)))) = rw q at t in
              let a : T (masteredb es (cell ++ (0 ∷ []))) = and_left (masteredb es (cell ++ (0 ∷ []))) _ w in
              let b : most_levels < length (cell ++ (0 ∷ [])) =
              omega (arith, length-append cell (0 ∷ []), length-eights (get_or px c 0 / 256) (get_or py c 0)) in
              not_both (masteredb es (cell ++ (0 ∷ []))) (is_true (masteredb es (cell ++ (0 ∷ []))) a) (long (cell ++ (0 ∷ [])) b)

          two : (j : ℕ) → size_of (lookup es cell) ≡ j → T (allb (masteredb es) (kid_paths cell (lookup es cell))) → ⊥
          two zero q t = omega arith
          two (suc k) q t = size_one k q t

          go : (k : ℕ) → s.h ≡ k → ⊥
          go zero q = omega (arith, s.low c (omega arith) g, (s.keys c (omega arith) (omega (arith, s.above))).level)
          go (suc k) q =
              let f : T (masteredb es cell && filled_left es (suc k) rest (known ++ kid_paths cell (lookup es cell))) =
              rw (filled_here, q) at (complete_filled u) in
              let t = rest_first es k rest (known ++ kid_paths cell (lookup es cell)) (and_right (masteredb es cell) _ f) in
              let t1 = all_front (masteredb es) (known ++ kid_paths cell (lookup es cell)) _ t in
              two (size_of (lookup es cell)) refl (all_back (masteredb es) known (kid_paths cell (lookup es cell)) t1)

    -- one cell
    module _ (s : Sweep es m px py st c e) (g : c < e) where
      pub sweep_on : (x y z size : ℕ) (px' py' : List ℕ) → x ≡ get_or px c 0 → y ≡ get_or py c 0 → masteredb es (path_in px py c) ≡ true
          → z ≡ lookup es (path_in px py c)
          → c < length st → size ≡ size_of z → size ≤ 8 → (0 < size → x / 256 < 10) → Pushed px py e x y size px' py'
          → Sweep es m px' py' (set st c z) (suc c) (e + size)
      sweep_on = let t = turned s g in on_here t.0 t.1

      pub no_master : masteredb es (path_in px py c) ≡ false → Failed es m
      no_master = let t = turned s g in out_here t.0 t.1

      pub no_status : 64 < lookup es (path_in px py c) → Failed es m
      no_status = let t = turned s g in status_here t.0 t.1

      pub no_room : c < length st → most_cells < e + size_of (lookup es (path_in px py c)) → Failed es m
      no_room = let t = turned s g in room_here t.0 t.1

      pub no_level_lem : ((l : List ℕ) → most_levels < length l → masteredb es l ≡ false) → 10 ≤ get_or px c 0 / 256
          → 0 < size_of (lookup es (path_in px py c)) → Failed es m
      no_level_lem = let t = turned s g in level_here t.0 t.1
