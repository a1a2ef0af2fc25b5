-- The uploads of an attempt, oldest first.
use Rattle.job_model.specs.Known.{Drawn}
use Rattle.job_protocol.specs.Knowledge.{as_made}
use Rattle.std.proofs.Common.{List, ap, refl, reverse, sym, [], ◌++◌, ◌∙◌, ◌∷◌, ◌≡◌}
use Rattle.std.proofs.lemmas.List.{reverse-append}

pub made_reverse : (ds : List Drawn) → as_made ds ≡ reverse ds
made_reverse [] = refl
made_reverse (d ∷ ds) = ap (λ (l : List Drawn). l ++ d ∷ []) (made_reverse ds) ∙ sym (reverse-append (d ∷ []) ds)
