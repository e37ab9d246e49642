-- A part of a list that is copied to.
-- Assumes nothing.
use Rattle.std.proofs.Common.{◌≡◌, ℕ, List, length}
use borrow.Rule.Slice.PartMut.{put_mid}
use Rattle.std.proofs.Math.Seq.{drop-drop}
use Rattle.growth.specs.Written.{written}

pub row_written : (l : List ℕ) (i k : ℕ) (vs ws : List ℕ) → k ≡ length vs → ws ≡ vs → put_mid i k l ws ≡ written l i vs
unfolding written
row_written l i k vs ws e q = rw (q, e, drop-drop (length vs) i l)
