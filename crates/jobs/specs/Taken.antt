-- What it says of flat tables that their job is accepted.
--   Written p ms es  the ends es do not fall from p on, the last is behind all marks ms, and the marks of each step rise
--   Taken ..         the tables can be stored: positions by threes, cells by fours, few of them, such ends and marks
--   tables_taken     so it is where the mesh and the steps are accepted
use Rattle.std.specs.Prelude.{◌≡◌, ◌&&◌, ℕ, suc, ◌-◌, ◌%◌, ◌≤◌, ◌<◌, T, eqb, ℤ, pos, negsuc, nat_abs, drop}
use mathlib.Core.List.{List, [], ◌∷◌}
use Rattle.std.proofs.Common.{arith, ltb→lt}
use Rattle.std.proofs.Math.Dec.{leb, eqb→eq, leb→le}
use Rattle.std.proofs.Math.ListN.{length, take, length-replicate}
use Rattle.base.specs.Lists.{allb}
use Rattle.base.specs.Bools.{and_left, and_right}
use Rattle.base.specs.Fours.{fours, length-fours}
use Rattle.base.specs.Limits.{most_cells}
use Rattle.base.specs.Refuse.{refuse, and_then, passed, both}
use Rattle.base.specs.Answer.{Accepted}
use Rattle.base.specs.Every.{All}
use Rattle.mesh.specs.Coarse.{coarse_corner_count, cell_count, positionsb, cellb, cellsb, mesh_answer}
use Rattle.mesh.specs.Answers.{marksb, limits_answer}
use Rattle.mesh.specs.Laws.{MeshCounts, AcceptedMesh, mesh_counts, mesh_accepted}
use Rattle.archive.specs.Bytes.{Word}
use Rattle.archive.specs.Writable.{Rises, TwoBytes}
use Rattle.archive.specs.Tables.{Mark, pairs, steps_from}
use Rattle.archive.specs.Stored.{Storable}
use Rattle.archive.specs.Ends.{Climbs, last_from, climbs_rising, climbs_within, length_pairs}
use Rattle.replay.specs.Run.{spread, markingb, one_answer, one_table, rest_table, flat_answer, tables_answer}
use Rattle.replay.specs.Scan.{mayb, marking_from}
use Rattle.replay.specs.Accepted.{limits_within}
use Rattle.replay.specs.Marking.{from_start}

-- the mesh
word_of : (z : ℤ) → nat_abs z ≤ 500000 → Word z
unfolding Word
word_of (pos n) h = omega arith
word_of (negsuc n) h = omega arith

words_of : (ps : List ℤ) → T (positionsb ps) → All Word ps
unfolding positionsb allb
words_of [] t = tt
words_of (z ∷ ps) t =
    let b = allb (λ z. leb (nat_abs z) 500000) ps in
    (word_of z (leb→le (nat_abs z) 500000 (and_left (leb (nat_abs z) 500000) b t)), words_of ps (and_right (leb (nat_abs z) 500000) b t))

cell_rises : (n a b c d : ℕ) → T (cellb n (a ∷ b ∷ c ∷ d ∷ [])) → (a < b) × (b < c) × (c < d) × (d < n)
unfolding cellb
cell_rises n a b c d t = search (and_left, and_right, ltb→lt)

numbers_of : (n : ℕ) (ts : List ℕ) → n ≤ 512 → length ts % 4 ≡ 0 → T (cellsb n (fours ts)) → All TwoBytes ts
unfolding cellsb allb fours
numbers_of n [] h m t = tt
numbers_of n (a ∷ []) h m t = absurd (omega arith)
numbers_of n (a ∷ b ∷ []) h m t = absurd (omega arith)
numbers_of n (a ∷ b ∷ c ∷ []) h m t = absurd (omega arith)
numbers_of n (a ∷ b ∷ c ∷ d ∷ ts) h m t =
    let q = cellb n (a ∷ b ∷ c ∷ d ∷ []) in
    let (i, j, k, l) = cell_rises n a b c d (and_left q (allb (cellb n) (fours ts)) t) in
    (omega arith, (omega arith, (omega arith, (omega arith, numbers_of n ts h (omega arith) (and_right q (allb (cellb n) (fours ts)) t)))))

-- the marks of one step
may_stand : (k b c m : ℕ) → T (mayb k b c m) → (b ≤ c) × (c < k) × (1 ≤ m) × (m ≤ 2)
unfolding mayb
may_stand k b c m t = search (and_left, and_right, leb→le, ltb→lt)

rises_from : (k b : ℕ) (ms : List Mark) → k ≤ most_cells → T (marking_from k b ms) → Rises b ms
unfolding marking_from Rises
rises_from k b [] h t = tt
rises_from k b (m ∷ ms) h t =
    let (p, q, r, s) = may_stand k b m.0 m.1 (and_left (mayb k b m.0 m.1) (marking_from k (suc m.0) ms) t) in
    (p, omega arith, r, s, rises_from k (suc m.0) ms h (and_right (mayb k b m.0 m.1) (marking_from k (suc m.0) ms) t))

pub record Written (p : ℕ) (ms : List Mark) (es : List ℕ) : Type 0 where
  pub climbs : Climbs p (length ms) es
  pub last : last_from p es ≡ length ms
  pub rising : All (Rises 0) (steps_from p ms es)

module _ (n : ℕ) (qs : List (List ℕ)) where
  one_rises : (t : List ℕ) (m : List Mark) → length t ≤ most_cells → one_answer n qs t m ≡ Accepted → Rises 0 m
  unfolding one_answer
  one_rises t m h e =
      let ms = spread (length t) m in
      let (b, _) = passed 7 (markingb (length t) m && marksb t ms) (limits_answer n qs t ms) e in
      rises_from (length t) 0 m h (rw (from_start (length t) m) (and_left (markingb (length t) m) (marksb t ms) b))

  one_few : (t : List ℕ) (m : List Mark) → one_answer n qs t m ≡ Accepted → length (one_table n qs t m) ≤ most_cells
  unfolding one_answer
  one_few t m e =
      let ms = spread (length t) m in
      let (_, a) = passed 7 (markingb (length t) m && marksb t ms) (limits_answer n qs t ms) e in
      (limits_within n qs t ms a).1

  flat_written : (t : List ℕ) (p : ℕ) (ms : List Mark) (es : List ℕ) → length t ≤ most_cells → flat_answer n qs t p ms es ≡ Accepted
      → Written p ms es
  unfolding flat_answer Climbs last_from steps_from
  flat_written t p ms [] h a = record { climbs = tt; last = eqb→eq p (length ms) (passed 7 (eqb p (length ms)) Accepted a).0; rising = tt }
  flat_written t p ms (e ∷ es) h a =
      let m = take (e - p) (drop p ms) in
      let rest = flat_answer n qs (one_table n qs t m) e ms es in
      let (b, c) = passed 7 (leb p e && leb e (length ms)) (and_then (one_answer n qs t m) rest) a in
      let (d, f) = both (one_answer n qs t m) rest c in
      let i : Written e ms es = flat_written (one_table n qs t m) e ms es (one_few t m d) f in
      record {
        climbs = (
          leb→le p e (and_left (leb p e) (leb e (length ms)) b),
          leb→le e (length ms) (and_right (leb p e) (leb e (length ms)) b),
          i.climbs,
        );
        last = i.last;
        rising = (one_rises t m h d, i.rising);
      }

-- Rules 1.2, 12.12, 12.14: tables of an accepted job.
pub record Taken (ps : List ℤ) (ts cs ms es : List ℕ) : Type 0 where
  pub storable : Storable ps ts cs ms es
  pub corners : coarse_corner_count ps ≤ 512
  pub cells : cell_count ts ≤ 256
  pub words : All Word ps
  pub numbers : All TwoBytes ts
  pub same : length cs ≡ length ms
  pub marks : length (pairs cs ms) ≡ length cs
  pub written : Written 0 (pairs cs ms) es

module _ (ps : List ℤ) (ts cs ms es : List ℕ) (e : tables_answer ps ts cs ms es ≡ Accepted) where
  pub tables_taken : Taken ps ts cs ms es
  unfolding tables_answer
  tables_taken =
      let qs = fours ts in
      let n = coarse_corner_count ps in
      let flat = flat_answer n qs (rest_table qs) 0 (pairs cs ms) es in
      let (mesh, steps) = both (mesh_answer ps ts) (refuse 7 (eqb (length cs) (length ms)) flat) e in
      let m : AcceptedMesh ps ts = mesh_accepted ps ts mesh in
      let (g, h) = passed 7 (eqb (length cs) (length ms)) flat steps in
      let k : MeshCounts ps ts = mesh_counts ps ts m.counts in
      let l : length (rest_table qs) ≤ most_cells = omega (arith, length-replicate {A = ℕ} (length qs) 0, length-fours ts, k.few) in
      let w : Written 0 (pairs cs ms) es = flat_written n qs (rest_table qs) 0 (pairs cs ms) es l h in
      let same : length cs ≡ length ms = eqb→eq (length cs) (length ms) g in
      let many : length (pairs cs ms) ≡ length cs = length_pairs cs ms same in
      record {
        storable = record {
          threes = k.threes;
          fours = k.fours;
          ends = record {
            rising = climbs_rising 0 (length (pairs cs ms)) es w.climbs;
            in_marked = λ i h. omega (arith, climbs_within 0 (length (pairs cs ms)) es w.climbs i h, many);
            in_marks = λ i h. omega (arith, climbs_within 0 (length (pairs cs ms)) es w.climbs i h, many, same);
          };
        };
        corners = k.corners_few;
        cells = k.few;
        words = words_of ps m.positions;
        numbers = numbers_of n ts k.corners_few k.fours m.cells;
        same = same;
        marks = many;
        written = w;
      }
