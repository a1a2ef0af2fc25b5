-- What the requests of each side name, over the whole run of two jobs.
use Rattle.job_model.specs.JobScript.{Script}
use Rattle.std.specs.List.{AllByRecursion}
use Rattle.std.specs.Prelude.{List, ◌≡◌}
use Rattle.twin_facts.specs.Names.{Ids, IsStranger}
use Rattle.twin_facts.specs.Sides.{First, Second, Side, TwinEntry, drew}
use Rattle.twin_facts.specs.TwinLaws.{InEachRun}

-- No request of this side names what belongs to the job of script v, or an upload in `ids`.
abbrev pub NamesNoneOfOthers : Side → Script → Ids → List TwinEntry → Type 0
NamesNoneOfOthers side v ids = AllByRecursion (λ t. t.side ≡ side → IsStranger v ids t.entry.request)

-- In every run of two jobs, no request of one names what is the other's, or an upload that the other drew in the whole run.
abbrev pub TwinsNameTheirOwn : Type 0
TwinsNameTheirOwn = InEachRun (λ g h k l opening es x y. NamesNoneOfOthers First h.script (drew Second opening es) es
    × NamesNoneOfOthers Second g.script (drew First opening es) es)
