-- The picks of a run stay while no operation sends that picks.
use Rattle.job_actor.specs.Picks.{ArePicksOf, LeavesPicks}
use Rattle.job_model.specs.JobScript.{Script}
use Rattle.job_model.specs.declared.ends.EventEnd.{EventEnd}
use Rattle.job_model.specs.declared.ends.Pick.{Pick}
use Rattle.job_protocol.specs.Operations.{Setting}
use Rattle.job_protocol.specs.Seen.{Seen, Times, nothing_seen, see, see_all, seen}
use Rattle.job_spec.specs.Promise.{all_picks, picks_below}
use Rattle.job_spec.specs.States.{times}
use Rattle.script_steps.proofs.Parts.{take_whole}
use Rattle.script_steps.proofs.Running.{sent_ahead}
use Rattle.script_steps.specs.Transitions.{Play, Sends, happen}
use Rattle.protocol_runs.proofs.Entries.{see_more}
use Rattle.s3_types.specs.Store.{Content}
use Rattle.s3_types.specs.declared.journal.Entry.{Entry}
use Rattle.std.proofs.Common.{List, ap, length, sym, [], ◌++◌, ◌∙◌, ◌∷◌, ◌≡◌}

all_of : (w : Script) (k : Times) (opening : Content) (es : List Entry)
    → seen w k opening es (length es) ≡ see_all w k (nothing_seen opening) es
all_of w k opening es = ap (see_all w k (nothing_seen opening)) (take_whole es)

-- An entry that changes no pick in what the journal shows changes no pick of the run.
pub picks_stay : (w : Script) (opening : Content) (es : List Entry) (e : Entry) (xs : List EventEnd)
    → ((s : Seen) → (see w (times w xs) s e).picks ≡ s.picks) → all_picks w opening (es ++ e ∷ []) xs ≡ all_picks w opening es xs
picks_stay w opening es e xs stays =
    let k = times w xs in
    let s = see_all w k (nothing_seen opening) es in
    let now : (seen w k opening (es ++ e ∷ []) (length (es ++ e ∷ []))).picks ≡ s.picks =
    ap (λ (v : Seen). v.picks) (all_of w k opening (es ++ e ∷ []) ∙ see_more w k (nothing_seen opening) es e) ∙ stays s in
    let before : (seen w k opening es (length es)).picks ≡ s.picks = ap (λ (v : Seen). v.picks) (all_of w k opening es) in
    ap (λ p. picks_below p w.tasks) (now ∙ sym before)

pub same_picks : (g : Setting) (opening : Content) (x : Play) (e : Entry) → LeavesPicks g opening x e → (ps : List Pick)
    → ArePicksOf g opening x ps → ArePicksOf g opening (happen g x (Sends e)) ps
same_picks g opening x e stays ps h xs ahead = let old = sent_ahead g x e xs ahead in h xs old ∙ sym (stays xs old)
