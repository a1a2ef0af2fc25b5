-- The place of a key's newest upload.
use Rattle.text_and_lists.proofs.Lists.{get_left}
use Rattle.text_and_lists.specs.Order.{text_eq}
use Rattle.job_model.specs.Files.{File}
use Rattle.job_model.specs.JobScript.{Script}
use Rattle.job_model.specs.Jobs.{Task}
use Rattle.job_model.specs.Known.{Drawn, Known}
use Rattle.job_protocol.specs.AtWork.{task_script, who_of}
use Rattle.job_protocol.specs.Knowledge.{as_made, drawn_in}
use Rattle.job_protocol.specs.Records.{file_key, file_record, set_text}
use Rattle.job_protocol.specs.TaskCommits.{Publishing, task_commit_asks}
use Rattle.pending_json.specs.Pending.{Pending, are_sizes, are_tags}
use Rattle.s3_types.specs.declared.request.Request.{Request}
use Rattle.s3_types.specs.declared.request.Request.TheVariants.{PutObject}
use Rattle.std.proofs.Common.{Bool, List, None, Option, Some, ap, arith, cond, false, get_or, length, length-take-le, refl, reverse}
use Rattle.std.proofs.Common.{slice_get, subst, suc, sym, take, true, zero, ℕ, [], ◌++◌, ◌+◌, ◌<◌, ◌∙◌, ◌∷◌, ◌≡◌, ◌≤◌}
use Rattle.std.proofs.lemmas.List.{map-append, reverse-append, reverse-reverse, take_more}
use Rattle.std.proofs.lemmas.Option.{get_or_from_slice_get, same_Some}
use Rattle.task_requests.proofs.InOrder.{made_reverse}
use Rattle.task_requests.specs.Publishing.{AreReady, IsPending, drawn_of, picked}
use Rattle.task_requests.specs.inner.Publishing.{IsLastAt, records_of}
use Rattle.magic_paths.specs.Layout as layout

get_end : (xs : List Drawn) (d : Drawn) → slice_get (xs ++ d ∷ []) (length xs) ≡ Some d
get_end [] d = refl
get_end (x ∷ xs) d = get_end xs d

last_of_push : (xs : List Drawn) (d : Drawn) (key : List ℕ) (b : Bool) → text_eq d.key key ≡ b
    → drawn_in (reverse (xs ++ d ∷ [])) key ≡ cond b d (drawn_in (reverse xs) key)
last_of_push xs d key b e = ap (λ (l : List Drawn). drawn_in l key) (reverse-append xs (d ∷ [])) ∙ ap
    (λ (c : Bool). cond c d (drawn_in (reverse xs) key)) e

last_push : (xs : List Drawn) (d : Drawn) (i : ℕ) (old new : Option ℕ) (key : List ℕ) → i ≡ length xs → IsLastAt xs key old
    → new ≡ cond (text_eq d.key key) (Some i) old → IsLastAt (xs ++ d ∷ []) key new
last_push xs d i old new key n h e = by (text_eq d.key key) refl
  where
    front : (o : Option ℕ) → text_eq d.key key ≡ false → IsLastAt xs key o → IsLastAt (xs ++ d ∷ []) key o
    front None g k = last_of_push xs d key false g ∙ k
    front (Some j) g k = get_left xs (d ∷ []) j (drawn_in (reverse xs) key) k ∙ ap (λ (x : Drawn). Some x)
        (sym (last_of_push xs d key false g))

    by : (b : Bool) → text_eq d.key key ≡ b → IsLastAt (xs ++ d ∷ []) key new
    by true g = subst (IsLastAt (xs ++ d ∷ []) key) (sym (e ∙ ap (λ (c : Bool). cond c (Some i) old) g))
        (ap (slice_get (xs ++ d ∷ [])) n ∙ (get_end xs d ∙ ap (λ (x : Drawn). Some x) (sym (last_of_push xs d key true g))))
    by false g = subst (IsLastAt (xs ++ d ∷ []) key) (sym (e ∙ ap (λ (c : Bool). cond c (Some i) old) g)) (front old g h)

pub last_step : (made : List Drawn) (i : ℕ) (d : Drawn) (old new : Option ℕ) (key : List ℕ) → i < length made → d ≡ get_or made i d
    → IsLastAt (take i made) key old → new ≡ cond (text_eq d.key key) (Some i) old → IsLastAt (take (i + 1) made) key new
last_step made i d old new key w e h n =
    let within : i ≤ length made = omega arith in
    subst (λ l. IsLastAt l key new) (sym (take_more made i d w ∙ ap (λ (x : Drawn). take i made ++ x ∷ []) (sym e)))
    (last_push (take i made) d i old new key (sym (length-take-le i made within)) h n)

-- ---- the upload of a file

made_back : (ds : List Drawn) → reverse (as_made ds) ≡ ds
made_back ds = ap reverse (made_reverse ds) ∙ reverse-reverse ds

pub drawn_there : (w : Script) (k : Known) (f : File) (key : List ℕ) (o : Option ℕ) (i : ℕ) → IsLastAt (as_made k.drawn) key o
    → key ≡ file_key w f → o ≡ Some i → slice_get (as_made k.drawn) i ≡ Some (drawn_of w k f)
drawn_there w k f key o i h g e = grind (arith, made_back)

-- ---- the file at a place whose known upload can become a record

module _ (t : Task) (place : ℕ) (f : File) (key : List ℕ) (o : Option ℕ) (at : Some f ≡ slice_get t.files place)
    (named : key ≡ file_key (task_script t) f) (last : IsLastAt (as_made t.known.drawn) key o)
    (ready : (let g = get_or t.files place ([], []) in IsPending (drawn_of (task_script t) t.known g) (length g.1))) where
  pub is_file : get_or t.files place ([], []) ≡ f
  is_file = get_or_from_slice_get t.files place f ([], []) (sym at)

  pub is_ready : IsPending (drawn_of (task_script t) t.known f) (length f.1)
  is_ready = subst (λ (g : File). IsPending (drawn_of (task_script t) t.known g) (length g.1)) is_file ready

  pub not_none : None ≡ o → ⊥
  not_none h = grind (arith, made_back, is_ready)

  pub is_drawn : (i : ℕ) (d : Drawn) → Some i ≡ o → Some d ≡ slice_get (as_made t.known.drawn) i → d ≡ drawn_of (task_script t) t.known f
  is_drawn i d e g = same_Some d (drawn_of (task_script t) t.known f) (g ∙ drawn_there (task_script t) t.known f key o i last named (sym e))

  pub not_behind : (i : ℕ) → Some i ≡ o → None ≡ slice_get (as_made t.known.drawn) i → ⊥
  not_behind i e g = let both : None ≡ Some (drawn_of (task_script t) t.known f) = g ∙ drawn_there (task_script t) t.known f key o i last
      named (sym e) in absurd (cc)

  pub drawn_tags : (i : ℕ) (d : Drawn) → Some i ≡ o → Some d ≡ slice_get (as_made t.known.drawn) i → are_tags d.tags ≡ true
  drawn_tags i d e g = subst (λ (x : Drawn). are_tags x.tags ≡ true) (sym (is_drawn i d e g)) is_ready.0

  pub drawn_sizes : (i : ℕ) (d : Drawn) → Some i ≡ o → Some d ≡ slice_get (as_made t.known.drawn) i
      → are_sizes (Some d.sizes) d.tags (length f.1) ≡ true
  drawn_sizes i d e g = subst (λ (x : Drawn). are_sizes (Some x.sizes) x.tags (length f.1) ≡ true) (sym (is_drawn i d e g)) is_ready.1

  pub same_record : (i : ℕ) (d : Drawn) → Some i ≡ o → Some d ≡ slice_get (as_made t.known.drawn) i
      → file_record (task_script t) (who_of t) f d ≡ (let g = get_or t.files place ([], []) in file_record (task_script t) (who_of t) g
      (drawn_of (task_script t) t.known g))
  same_record i d h g = grind (arith, is_drawn, is_file)

-- ---- all of them

pub ready_at : (t : Task) (places : List ℕ) (i : ℕ) → i < length places → AreReady t (picked t.files places)
    → (let g = get_or t.files (get_or places i 0) ([], []) in IsPending (drawn_of (task_script t) t.known g) (length g.1))
ready_at t [] i w h = absurd (omega arith)
ready_at t (q ∷ places) zero w h = h.0
ready_at t (q ∷ places) (suc i) w h = ready_at t places i (omega arith) h.1

pub records_with : (t : Task) (places : List ℕ) (i : ℕ) (list : List Pending) (p : Pending) → i < length places
    → list ≡ records_of t (picked t.files (take i places))
    → (let g = get_or t.files (get_or places i 0) ([], []) in p ≡ file_record (task_script t) (who_of t) g
    (drawn_of (task_script t) t.known g))
    → list ++ p ∷ [] ≡ records_of t (picked t.files (take (i + 1) places))
records_with t places i list p w e h =
    let g = get_or t.files (get_or places i 0) ([], []) in
    ap (λ (l : List Pending). l ++ p ∷ []) e
    ∙ (ap (λ (x : Pending). records_of t (picked t.files (take i places)) ++ x ∷ []) h
    ∙ sym (ap (λ (l : List ℕ). records_of t (picked t.files l)) (take_more places i 0 w)
    ∙ (ap (records_of t) (map-append (λ j. get_or t.files j ([], [])) (take i places) (get_or places i 0 ∷ []))
    ∙ map-append (λ f. file_record (task_script t) (who_of t) f (drawn_of (task_script t) t.known f)) (picked t.files (take i places))
    (g ∷ []))))

-- ---- the put of a set

pub put_is : (t : Task) (cs : List File) (request : Request) (bucket key bytes : List ℕ) → request ≡ PutObject bucket key bytes None
    → bucket ≡ t.job.dest.bucket → key ≡ layout.set_key t.job.dest.key t.job.job t.task
    → bytes ≡ set_text (task_script t) (who_of t) cs t.known
    → Some request ≡ task_commit_asks (task_script t) (who_of t) t.known (Publishing cs)
put_is t cs request bucket key bytes h g e f = grind arith
