-- The memory that two packed values side by side take.
use Rattle.std.specs.Borrow.{RattleType}
use Rattle.std.specs.Mem.{FitsInMemory}
use Rattle.stark_support.specs.contracts.vectorized.PackedPair.{the_row}

-- A value of two such values fits in memory; what else the pair's type names takes none of it.
abbrev pub PairFitsInMemory : RattleType → Type 0
PairFitsInMemory P = FitsInMemory (the_row P P P P)
