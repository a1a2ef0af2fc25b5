-- Definitions beside those of `Reading` that no public contract cites.
use Rattle.log_format.specs.Reading.{Read}
use Rattle.text_and_lists.specs.Reading.{made}

-- The second value that is read, paired with the first.
abbrev pub paired : {A B : Type 0} → A → Read B → Read (A × B)
paired first second = made (λ b. (first, b)) second
