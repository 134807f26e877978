-- `Index::find` meets its contract: no level before level i has the bit of the id. Assumes nothing.
use Rattle.std.proofs.Common.{◌≡◌, ℕ, ◌<◌, false}
use Rattle.mixer.specs.Position.{position}
use Rattle.head.specs.Layout.{size_at}
use Rattle.head.proofs.Fits.{Walk}
use Rattle.finding.proofs.Finds.{bit_at}
use Rattle.finding.proofs.Index.find.Given as goal

abbrev pub invariant-loop-i : goal.invariant-loop-i
invariant-loop-i l =
    let index = l.self in
    let head = index.head.now in
    Walk head.sizes l.i l.at l.sampled
    × ((m : ℕ) → m < l.i → bit_at (position index.kind) head.count (size_at head.sizes) index.words.now index.samples.now l.id m ≡ false)
