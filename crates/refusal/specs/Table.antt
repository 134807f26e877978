-- The table of refusal numbers: the number of each case, and the value that it carries.
use Rattle.std.specs.Prelude.{ℕ}
use Rattle.refusal.specs.declared.Refusal.{Refusal}
use Rattle.refusal.specs.declared.Refusal.TheVariants.{GammaTooSmall, GammaTooLarge, TooManyIds, ShortWorkStore, NoRoomForLevel, IdsRemain}
use Rattle.refusal.specs.declared.Refusal.TheVariants.{UnfitHead, UnfitRow, BitOutside, UnfitSet, ShortOutput, WrongIds, UnfitLength, BadBlock, UnfitContent, UnknownKind}

abbrev pub number_of : Refusal → ℕ
number_of GammaTooSmall = 1
number_of GammaTooLarge = 2
number_of TooManyIds = 3
number_of ShortWorkStore = 4
number_of (NoRoomForLevel level) = 5
number_of (IdsRemain ids) = 6
number_of UnfitHead = 7
number_of UnfitRow = 8
number_of BitOutside = 9
number_of UnfitSet = 10
number_of ShortOutput = 11
number_of WrongIds = 12
number_of UnfitLength = 13
number_of (BadBlock block) = 14
number_of UnfitContent = 15
number_of UnknownKind = 16

-- the last number of the table
abbrev pub last_number : ℕ
last_number = 16

-- 5 carries the level, 6 how many ids remain, 14 the block; the others nothing, which is 0
abbrev pub value_of : Refusal → ℕ
value_of GammaTooSmall = 0
value_of GammaTooLarge = 0
value_of TooManyIds = 0
value_of ShortWorkStore = 0
value_of (NoRoomForLevel level) = level
value_of (IdsRemain ids) = ids
value_of UnfitHead = 0
value_of UnfitRow = 0
value_of BitOutside = 0
value_of UnfitSet = 0
value_of ShortOutput = 0
value_of WrongIds = 0
value_of UnfitLength = 0
value_of (BadBlock block) = block
value_of UnfitContent = 0
value_of UnknownKind = 0
