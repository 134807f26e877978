-- What a level takes.
use Rattle.std.specs.Prelude.{ℕ, Float, cond, not, ◌&&◌, leb}
use Rattle.bounds.specs.Bounds.{max_ids}
use Rattle.laws.specs.Bits.{words_for}
use Rattle.sizes.specs.Gamma.{above_min, above_max}
use Rattle.sizes.specs.Sizes.{size_for, samples_for}
use Rattle.trial.specs.declared.measure.Takes.{Takes}

abbrev pub level_of : ℕ → Takes
level_of bits = record { bits = bits; words = words_for bits; samples = samples_for (words_for bits) }

abbrev pub no_level : Takes
no_level = record { bits = 0; words = 0; samples = 0 }

-- for so many ids: nothing, where gamma or they are out of bounds
unfoldable pub takes_for : Float → ℕ → Takes
takes_for gamma ids =
    cond (above_min gamma && not (above_max gamma) && leb ids max_ids) (level_of (size_for gamma ids)) no_level
