-- A journal with one more entry.
use Rattle.std.proofs.Common.{◌≡◌, List, [], ◌∷◌, ◌++◌, ap, ◌∙◌}

pub put_on : {X : Type 0} (old mid new : List X) (e : X) → new ≡ mid ++ e ∷ [] → mid ≡ old → new ≡ old ++ e ∷ []
put_on old mid new e en em = en ∙ ap (λ l. l ++ e ∷ []) em
