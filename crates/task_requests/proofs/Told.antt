-- A write after a reply, at its current file.
use Rattle.text_and_lists.proofs.Bools.{contrary, not_so}
use Rattle.text_and_lists.proofs.Lists.{one_longer}
use Rattle.text_and_lists.proofs.Members.{nat_true}
use Rattle.text_and_lists.proofs.Naturals.{below_not}
use Rattle.text_and_lists.specs.Order.{text_eq}
use Rattle.job_model.specs.Attempts.{Who, same_name}
use Rattle.job_model.specs.Files.{File}
use Rattle.job_model.specs.JobScript.{Script}
use Rattle.job_model.specs.Jobs.{Task}
use Rattle.job_model.specs.Known.{Drawn, Known, with_last}
use Rattle.job_model.specs.Placed.{placed}
use Rattle.job_protocol.specs.AtWork.{Attempting, task_script, who_of, with_known, write_told}
use Rattle.job_protocol.specs.Knowledge.{first_drawn, is_set_key, with_part}
use Rattle.job_protocol.specs.Outputs.{files}
use Rattle.job_protocol.specs.Records.{file_key}
use Rattle.job_protocol.specs.Uploading.{file_parts, sending}
use Rattle.job_protocol.specs.Writes.{Write, uploaded, writing}
use Rattle.magic_paths.proofs.Tails.{below_is}
use Rattle.path_keys.specs.Paths.{below}
use Rattle.pending_json.proofs.Candidates.{plain_more}
use Rattle.retries.specs.Retries.{Got}
use Rattle.s3_types.specs.Tags.{Spelled, is_plain_tag}
use Rattle.s3_types.specs.declared.reply.Refusal.TheVariants.{NoSuchUpload}
use Rattle.s3_types.specs.declared.reply.Reply.{Reply}
use Rattle.s3_types.specs.declared.reply.Reply.TheVariants.{Part, Refused, Upload}
use Rattle.std.proofs.Common.{Bool, List, None, Some, add-one, ap, append_assoc, arith, codes, cond, drop, false, get_or, length}
use Rattle.std.proofs.Common.{length-append, lit<, map, nat_eq, nat_lt, not, refl, slice_get, suc, sym, take, true, zero, ℕ, [], ◌++◌, ◌+◌}
use Rattle.std.proofs.Common.{◌<◌, ◌||◌, ◌∙◌, ◌∷◌, ◌≡◌, ◌≤◌}
use Rattle.std.proofs.Math.Bool.{or-false}
use Rattle.std.proofs.lemmas.Bool.{and_parts}
use Rattle.std.proofs.lemmas.Bool.Decides.{nat_tests}
use Rattle.std.proofs.lemmas.List.{append_cancel_left, drop_all, map-append}
use Rattle.std.specs.Cmp.Lexicographic.{bytes_decides}
use Rattle.std.specs.Fmt.{decimal}
use Rattle.task_requests.specs.Writing.{HasSent, at_parts, at_stage, is_new, next_stage, with_drawn, with_tag}
use Rattle.task_requests.specs.declared.stage.WriteStage.{WriteStage}
use Rattle.magic_paths.specs.Layout as layout
use Rattle.job_model.specs.declared.ends.TaskEnd.TheVariants as ends
use Rattle.job_protocol.specs.Writes as writes
use Rattle.task_requests.specs.declared.stage.WriteStage.TheVariants as stage

-- The write that still has to write these files.
abbrev pub seen_at : Task → List File → WriteStage → Attempting Write
seen_at t l s = record { plan = t; operation = at_stage (task_script t) t.minimum s l }

-- ---- its own files

placed_same : (id : List ℕ) (fs : List File) → placed false id fs ≡ fs
placed_same id [] = refl
placed_same id (f ∷ fs) = ap (λ (l : List File). f ∷ l) (placed_same id fs)

same_self : (a : Who) → same_name a a ≡ true
same_self a = grind (arith, nat_tests)

pub own_files : (t : Task) → files (task_script t) (who_of t) ≡ t.files
own_files t = rw (same_self (who_of t)) (placed_same t.job.job t.files)

pub front_is : (fs : List File) (place : ℕ) (f : File) → slice_get fs place ≡ Some f → drop place fs ≡ f ∷ drop (place + 1) fs
front_is [] place f e = absurd (cc)
front_is (g ∷ fs) zero f e = let same : g ≡ f = cc in ap (λ (x : File). x ∷ fs) same
front_is (g ∷ fs) (suc i) f e = front_is fs i f e ∙ rw (add-one, add-one) refl

pub none_left : (fs : List File) (place : ℕ) → slice_get fs place ≡ None → drop place fs ≡ []
none_left [] zero e = refl
none_left [] (suc i) e = refl
none_left (g ∷ fs) zero e = absurd (cc)
none_left (g ∷ fs) (suc i) e = none_left fs i e

-- ---- no set is put below an attempt's directory

unlike : (a b : ℕ) → a ≡ b → b < a → ⊥
unlike a b e h = omega arith

apart : (dest id p : List ℕ) (t a u : ℕ) → below (layout.attempt_key dest id t a) p ≡ layout.set_key dest id u → ⊥
apart dest id p t a u e =
    let root = layout.attempt_key dest id t a in
    let long : 1 ≤ length root = simp length-append (omega arith) in
    let behind = decimal t ++ (codes "_" ++ (decimal a ++ codes "/__base")) in
    let is : root ++ 47 ∷ p ≡ dest ++ (codes "/__magic/job-" ++ (id ++ (codes "/tasks/" ++ (behind ++ 47 ∷ p)))) = (simp append_assoc) in
    let same = sym is ∙ (sym (below_is root p long) ∙ e) in
    unlike 116 115 (ap (λ (l : List ℕ). get_or l 1 0) (append_cancel_left id _ _
    (append_cancel_left (codes "/__magic/job-") _ _ (append_cancel_left dest _ _ same)))) (lit< tt)

pub no_set : (w : Script) (a : Who) (p : List ℕ) → is_set_key w a.task w.dest.bucket
    (below (layout.attempt_key w.dest.key w.job a.task a.attempt) p) ≡ false
no_set w a p =
    let key = below (layout.attempt_key w.dest.key w.job a.task a.attempt) p in
    contrary (is_set_key w a.task w.dest.bucket key) (λ h. absurd
    (apart w.dest.key w.job p a.task a.attempt a.task ((bytes_decides key (layout.set_key w.dest.key w.job a.task)).0
    (and_parts (text_eq w.dest.bucket w.dest.bucket) (text_eq key (layout.set_key w.dest.key w.job a.task)) h).1)))

-- A put below an attempt's directory teaches nothing.
pub same_known : (k : Known) (b : Bool) → b ≡ false
    → (let after : Known = record { drawn = k.drawn; put_sent = k.put_sent; publish_sent = k.publish_sent || b } in after ≡ k)
same_known k b e = ap (λ c. record { drawn = k.drawn; put_sent = k.put_sent; publish_sent = c })
    (ap (λ c. k.publish_sent || c) e ∙ or-false k.publish_sent)

-- ---- the upload was created

uploaded_parts : (w : Script) (f : File) (fs : List File) (ps : List (List ℕ)) → uploaded w f fs (sending ps) ≡ at_parts f fs ps
uploaded_parts w f fs ps = grind arith

pub created : (t : Task) (f : File) (fs : List File) (id : ℕ) (b : Bool)
    → write_told (seen_at t (f ∷ fs) stage.Creating) (Got (Upload id) b) ≡ seen_at
    (with_known t (with_drawn t.known (file_key (task_script t) f) id)) (f ∷ fs) (stage.Sending 0)
created t f fs id b = ap (λ (o : Write). record { plan = with_known t (with_drawn t.known (file_key (task_script t) f) id); operation = o })
    (uploaded_parts (task_script t) f fs (file_parts (task_script t) t.minimum f))

-- ---- a part

pub part_gone : (t : Task) (f : File) (fs : List File) (n : ℕ) (p : List ℕ) (ps : List (List ℕ)) (b : Bool)
    → drop n (file_parts (task_script t) t.minimum f) ≡ p ∷ ps
    → write_told (seen_at t (f ∷ fs) (stage.Sending n)) (Got (Refused NoSuchUpload) b) ≡ record
    { plan = t; operation = writes.WriteOver (ends.Gone (file_key (task_script t) f)) }
part_gone t f fs n p ps b e = ap (λ l. write_told (record { plan = t; operation = at_parts f fs l }) (Got (Refused NoSuchUpload) b)) e

learn_others : (id : ℕ) (tag : Spelled) (size : ℕ) (ds : List Drawn) → is_new id ds ≡ true → map (with_part id tag size) ds ≡ ds
learn_others id tag size [] h = refl
learn_others id tag size (d ∷ ds) h =
    let p = and_parts (not (nat_eq d.upload id)) (is_new id ds) h in
    ap (λ (b : Bool). cond b (record { key = d.key; upload = d.upload; tags = d.tags ++ tag ∷ []; sizes = d.sizes ++ size ∷ [] }) d ∷ map
    (with_part id tag size) ds) (not_so (nat_eq d.upload id) p.0)
    ∙ ap (λ (l : List Drawn). d ∷ l) (learn_others id tag size ds p.1)

learn_first : (tag : Spelled) (size : ℕ) (d : Drawn) (ds : List Drawn) → is_new d.upload ds ≡ true
    → map (with_part d.upload tag size) (d ∷ ds) ≡ with_last tag size (d ∷ ds)
learn_first tag size d ds h = grind (arith, nat_true, learn_others)

pub learn_last : (tag : Spelled) (size : ℕ) (ds : List Drawn) (parts : List (List ℕ)) → HasSent ds parts
    → map (with_part (first_drawn ds).upload tag size) ds ≡ with_last tag size ds
learn_last tag size [] parts h = absurd h
learn_last tag size (d ∷ ds) parts h = learn_first tag size d ds h.0

next_by : (w : Script) (minimum : ℕ) (f : File) (fs : List File) (n : ℕ) (b : Bool) → nat_lt (n + 1) (length (file_parts w minimum f)) ≡ b
    → at_stage w minimum (cond b (stage.Sending (n + 1)) stage.Marking) (f ∷ fs) ≡ at_parts f fs (drop (n + 1) (file_parts w minimum f))
next_by w minimum f fs n true e = refl
next_by w minimum f fs n false e = sym (ap (at_parts f fs) (drop_all (n + 1) (file_parts w minimum f)
    (below_not (n + 1) (length (file_parts w minimum f)) e)))

pub at_next : (w : Script) (minimum : ℕ) (f : File) (fs : List File) (n : ℕ)
    → at_stage w minimum (next_stage n (length (file_parts w minimum f))) (f ∷ fs) ≡ at_parts f fs (drop (n + 1) (file_parts w minimum f))
at_next w minimum f fs n = next_by w minimum f fs n (nat_lt (n + 1) (length (file_parts w minimum f))) refl

pub part_sent : (t : Task) (f : File) (fs : List File) (n : ℕ) (p : List ℕ) (tag : Spelled) (b : Bool) (parts : List (List ℕ))
    → drop n (file_parts (task_script t) t.minimum f) ≡ p ∷ drop (n + 1) (file_parts (task_script t) t.minimum f)
    → HasSent t.known.drawn parts
    → write_told (seen_at t (f ∷ fs) (stage.Sending n)) (Got (Part tag) b) ≡ seen_at (with_known t (with_tag t.known tag (length p)))
    (f ∷ fs) (next_stage n (length (file_parts (task_script t) t.minimum f)))
part_sent t f fs n p tag b parts e h =
    let w = task_script t in
    let rest = drop (n + 1) (file_parts w t.minimum f) in
    ap (λ l. write_told (record { plan = t; operation = at_parts f fs l }) (Got (Part tag) b)) e
    ∙ (ap (λ l. record {
      plan = with_known t (record { drawn = l; put_sent = t.known.put_sent; publish_sent = t.known.publish_sent });
      operation = uploaded w f fs (sending rest);
    }) (learn_last tag (length p) t.known.drawn parts h)
    ∙ ap (λ (o : Write). record { plan = with_known t (with_tag t.known tag (length p)); operation = o })
    (uploaded_parts w f fs rest ∙ sym (at_next w t.minimum f fs n)))

-- ---- an acknowledged part

pub has_more : (ds : List Drawn) (parts : List (List ℕ)) (p : List ℕ) (tag : Spelled) → HasSent ds parts → is_plain_tag tag ≡ true
    → HasSent (with_last tag (length p) ds) (parts ++ p ∷ [])
has_more ds parts p tag h g = grind (arith, one_longer, map-append, plain_more)

pub take_next : (n : ℕ) (parts : List (List ℕ)) (p : List ℕ) (rest : List (List ℕ)) → drop n parts ≡ p ∷ rest
    → take (n + 1) parts ≡ take n parts ++ p ∷ []
take_next zero [] p rest e = absurd (cc)
take_next zero (q ∷ parts) p rest e = let same : q ≡ p = cc in ap (λ (x : List ℕ). x ∷ []) same
take_next (suc n) [] p rest e = absurd (cc)
take_next (suc n) (q ∷ parts) p rest e = ap (λ m. take m (q ∷ parts)) (add-one (suc n)) ∙
    (ap (λ m. q ∷ take m parts) (sym (add-one n)) ∙ ap (λ l. q ∷ l) (take_next n parts p rest e))

-- ---- marker and record

pub marked : (t : Task) (f : File) (fs : List File) (r : Reply) (b : Bool)
    → write_told (seen_at t (f ∷ fs) stage.Marking) (Got r b) ≡ seen_at t (f ∷ fs) stage.Recording
marked t f fs r b = ap (λ k. record { plan = with_known t k; operation = writes.Recording f fs })
    (same_known t.known _ (no_set (task_script t) (who_of t) f.0))

pub next_files : (w : Script) (minimum : ℕ) (fs : List File) → writing fs ≡ at_stage w minimum stage.Creating fs
next_files w minimum fs = grind arith

pub recorded : (t : Task) (f : File) (fs : List File) (r : Reply) (b : Bool)
    → write_told (seen_at t (f ∷ fs) stage.Recording) (Got r b) ≡ seen_at t fs stage.Creating
recorded t f fs r b =
    ap (λ k. record { plan = with_known t k; operation = writing fs }) (same_known t.known _
    (no_set (task_script t) (who_of t) (f.0 ++ codes ".pending")))
    ∙ ap (λ (o : Write). record { plan = t; operation = o }) (next_files (task_script t) t.minimum fs)
