-- Laws of a run of insertions: how it starts, and how it goes on.
use Rattle.std.specs.Prelude.{List, [], ◌++◌, ℕ}
use Rattle.pairs.specs.declared.PairTable.{PairTable}
use Rattle.edges.specs.Pairs.{Pair}
use Rattle.edges.specs.Table.{Edges, Grown, grown_none, grown_both}

module _ {N H : ℕ} where
  pub run_start : (t : PairTable N H) → Edges t → Grown t [] t
  run_start t e = grown_none t e

  pub run_more : {t : PairTable N H} {es : List Pair} {t₁ : PairTable N H} {fs : List Pair} {t₂ : PairTable N H}
      → Grown t es t₁ → Grown t₁ fs t₂ → Grown t (es ++ fs) t₂
  run_more g h = grown_both g h
