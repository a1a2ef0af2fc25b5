use Rattle.magic_paths.proofs.Tails.{keys_apart, jobs_apart, paths_apart, key_magic, key_strange}
use Rattle.magic_paths.proofs.laws.places_apart.Goals as goal

pub returns : goal.returns
returns c = record { places = keys_apart; jobs = jobs_apart; cluster = paths_apart; magic = key_magic; strange = key_strange }
