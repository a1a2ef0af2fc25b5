use Rattle.durable_store.proofs.Found.{again, at_keys}
use Rattle.durable_store.proofs.shelf_state.loads.Goals as goal

pub returns : goal.returns
returns c = record { again = record { found_again = again }; keys = at_keys }
