use Rattle.twin_facts.proofs.Apart.{twin_stranger, stranger_foreign}
use Rattle.twin_facts.proofs.Naming.{sends_own, setup_own}
use Rattle.twin_facts.proofs.Named.{named}
use Rattle.twin_facts.proofs.names.Goals as goal

pub returns : goal.returns
returns c = record {
  own = record { sends = sends_own; setup = setup_own };
  strangers = record { stranger = twin_stranger; foreign = stranger_foreign };
  named = named;
}
