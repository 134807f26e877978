-- `mixer::mix` meets its contract. Assumes nothing.
use Rattle.std.proofs.Common.{◌≡◌, ◌+◌, ◌%◌, ◌^◌, arith}
use Rattle.mixer.specs.Mixer.{mixed}
use Rattle.mixer.proofs.mix.Goals as goal

pub returns : goal.returns
unfolding mixed
returns c =
    let a = c.args in
    let z : ((a.id + a.seed) % 2 ^ 64 + 0x9E37_79B9_7F4A_7C15) % 2 ^ 64 ≡ (a.id + a.seed + 0x9E37_79B9_7F4A_7C15) % 2 ^ 64 = omega arith in
    cc z
