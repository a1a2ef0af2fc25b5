use Rattle.path_keys.proofs.Beneath.{behind_none, behind_other, behind_some}
use Rattle.path_keys.specs.Paths.{relative_in}
use Rattle.std.proofs.Common.{Bor, List, None, Option, Some, option_map, sym, ℕ, [], ◌++◌, ◌∷◌, ◌≡◌, ◌≢◌}
use Rattle.std.proofs.lemmas.Bool.Decides.{Decides-eqb}
use Rattle.std.proofs.lemmas.Slice.Eq.{strip_prefix_is}
use Rattle.std.specs.Option.{MatchOption}
use Rattle.path_keys.proofs.relatives.behind.Goals as goal

pub returns-in-Some : goal.returns-in-Some
returns-in-Some c =
    let first = strip_prefix_is Decides-eqb c.args.text.now c.args.key.now (Some c.in-Some.rest) c.in-Some.ensures.cases in
    by c.strip_prefix-in-Some.result (strip_prefix_is Decides-eqb c.in-Some.rest.now (47 ∷ []) c.strip_prefix-in-Some.result
    c.strip_prefix-in-Some.ensures.cases) first
  where
    by : (r : Option (Bor (List ℕ))) → MatchOption r ((rest : List ℕ) → c.in-Some.rest.now ≢ (47 ∷ []) ++ rest)
        (λ x. c.in-Some.rest.now ≡ (47 ∷ []) ++ x.now) → c.args.text.now ≡ c.args.key.now ++ c.in-Some.rest.now
        → option_map (λ r. r.now) r ≡ relative_in c.args.key.now c.args.text.now
    by None h e = sym (behind_other c.args.key.now c.args.text.now c.in-Some.rest.now c.requires e h)
    by (Some x) h e = sym (behind_some c.args.key.now c.args.text.now c.in-Some.rest.now x.now c.requires e h)

pub returns-in-None : goal.returns-in-None
returns-in-None c = sym (behind_none c.args.key.now c.args.text.now c.requires
    (strip_prefix_is Decides-eqb c.args.text.now c.args.key.now None c.in-None.ensures.cases))
