-- `run::Stores::place_at` meets its contract. Assumes nothing.
use mathlib.Core.Path.{refl}
use Rattle.level.proofs.Placing.{placed_front}
use Rattle.run.specs.Stores.{held}
use Rattle.run.proofs.Turns.{words_placed, collide_again}
use Rattle.run.proofs.Stores.place_at.Goals as goal

pub returns-clause-placed : goal.returns-clause-placed
returns-clause-placed c =
    let s = held c.args.self.now in
    let t = placed_front _ _ c.args.at.remaining _ _ s.rest c.requires.in_store c.place-kept.ensures in
    record {
      words_are = words_placed _ _ s c.requires _ t.words_are;
      samples_are = refl;
      collide_is = collide_again _ _ s c.requires _ _ c.u64s.ensures t.collide_is c.fill.ensures;
      store_is = t.store_is;
      count_is = t.count_is;
    }
