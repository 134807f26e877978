-- The promises at small inputs, which antt computes: a build of three ids, a build of two and their lookups. Assumes nothing.
use mathlib.Core.Path.{◌≡◌, refl}
use mathlib.Core.List.{[]}
use lib.Ieee.{of_bits, lt}
use Rattle.laws.specs.Bits.{bit_at, has, packed}
use Rattle.mixer.specs.Kinds.{kind_of}
use Rattle.mixer.specs.Mixer.{mixed}
use Rattle.mixer.specs.Position.{position}
use Rattle.ranks.specs.Ranks.{first_samples, ones_from}
use Rattle.rule.specs.Rule.{remaining, run_from, first}
use Rattle.sizes.specs.Sizes.{size_for, whole_of, rounded}
use Rattle.head.specs.Index.{index_words, index_samples, index_sizes}
use Rattle.build.specs.Build.{built_of, build_checks, build_call}
use Rattle.head.specs.Layout.{bounded, fit}
use Rattle.finding.specs.Find.{answer_of, row_answer, find_in}
use Rattle.lookup.specs.Lookup.{lookup_call}
use Rattle.std.specs.Prelude.{Some, Ok}
use Rattle.demands.specs.Inputs.{two, three, lent_three, three_built, three_left, pair, lent_pair, pair_head, pair_built, pair_left, first_place, second_place}
use Rattle.demands.specs.Inputs.{lent_none, none_built, none_left, one, lent_one, one_built, one_left}

pub three_built_lem : built_of three_built three_left ≡ build_call 0 two three lent_three
unfolding kind_of build_call build_checks lt of_bits size_for whole_of rounded run_from remaining position mixed index_words index_samples index_sizes packed first_samples has bit_at
three_built_lem = refl

pub pair_built_lem : built_of pair_built pair_left ≡ build_call 0 two pair lent_pair
unfolding kind_of build_call build_checks lt of_bits size_for whole_of rounded run_from remaining position mixed index_words index_samples index_sizes packed first_samples has bit_at
pair_built_lem = refl

pub none_built_lem : built_of none_built none_left ≡ build_call 0 two [] lent_none
unfolding kind_of build_call build_checks lt of_bits size_for whole_of rounded run_from remaining position mixed index_words index_samples index_sizes packed first_samples has bit_at
none_built_lem = refl

pub one_built_lem : built_of one_built one_left ≡ build_call 0 two one lent_one
unfolding kind_of build_call build_checks lt of_bits size_for whole_of rounded run_from remaining position mixed index_words index_samples index_sizes packed first_samples has bit_at
one_built_lem = refl

pub first_found : answer_of (Ok (Some first_place)) ≡ lookup_call pair_head pair_left.words pair_left.samples 1
unfolding kind_of lookup_call fit bounded find_in first row_answer ones_from position mixed has bit_at
first_found = refl

pub second_found : answer_of (Ok (Some second_place)) ≡ lookup_call pair_head pair_left.words pair_left.samples 2
unfolding kind_of lookup_call fit bounded find_in first row_answer ones_from position mixed has bit_at
second_found = refl
