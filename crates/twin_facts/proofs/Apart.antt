-- A request that names only what is one job's own is a stranger's to the other job.
use Rattle.text_and_lists.proofs.Cuts.{cut_once}
use Rattle.text_and_lists.proofs.Members.{false_true}
use Rattle.text_and_lists.specs.Members.{IsIn}
use Rattle.job_invariant.proofs.JobCommitting.{no_magic}
use Rattle.job_invariant.specs.Foreign.{IsForeign}
use Rattle.job_invariant.specs.Stores.{IsKnown}
use Rattle.job_model.specs.Attempts.{Who}
use Rattle.job_model.specs.JobScript.{Script}
use Rattle.job_model.specs.Known.{Drawn}
use Rattle.job_model.specs.Legal.{IsLegal}
use Rattle.magic_paths.proofs.Elements.{id_others}
use Rattle.magic_paths.proofs.Tails.{begins_back}
use Rattle.magic_paths.specs.Layout.{cluster_prefix, magic_prefix}
use Rattle.path_keys.specs.Paths.{Path}
use Rattle.s3_types.specs.Names.{is_job_id}
use Rattle.s3_types.specs.Pages.{begins}
use Rattle.s3_types.specs.declared.request.Request.{Request}
use Rattle.std.proofs.Common.{Bool, List, Some, ap, append_assoc, arith, codes, false, inl, inr, not, refl, sym, true, ℕ, ◌++◌, ◌∙◌, ◌∷◌}
use Rattle.std.proofs.Common.{◌≡◌}
use Rattle.std.proofs.lemmas.List.{append_cancel_left}
use Rattle.store_frame.specs.Frame.{changed_keys, changed_paths, changed_upload}
use Rattle.twin_facts.specs.Strangers.{AreTwins}
use Rattle.twin_facts.specs.Names.{Ids, IsStranger, NamesOwn, named_keys, named_paths, named_upload}

-- ---- directories of two jobs

-- A key that is below the directories of two jobs is below the directory of one job: their ids are the same.
one_job : (front i o r t : List ℕ) → is_job_id i ≡ true → is_job_id o ≡ true → front ++ (i ++ 47 ∷ r) ≡ front ++ (o ++ 47 ∷ t) → i ≡ o
one_job front i o r t a b e = (cut_once 47 i o r t (id_others i a) (id_others o b) (append_cancel_left front _ _ e)).front

pub one_magic : (dest i o k : List ℕ) → is_job_id i ≡ true → is_job_id o ≡ true → begins (magic_prefix dest i) k ≡ true
    → begins (magic_prefix dest o) k ≡ true → i ≡ o
one_magic dest i o k a b h g =
    let x = begins_back (magic_prefix dest i) k h in
    let y = begins_back (magic_prefix dest o) k g in
    one_job (dest ++ codes "/__magic/job-") i o x.0 y.0 a b (sym (whole i x.0) ∙ sym x.1 ∙ y.1 ∙ whole o y.0)
  where
    whole : (i r : List ℕ) → magic_prefix dest i ++ r ≡ (dest ++ codes "/__magic/job-") ++ (i ++ 47 ∷ r)
    whole i r =
        append_assoc dest (codes "/__magic/job-" ++ (i ++ codes "/")) r
        ∙ ap (λ l. dest ++ (codes "/__magic/job-" ++ l)) (append_assoc i (codes "/") r)
        ∙ sym (append_assoc dest (codes "/__magic/job-") (i ++ 47 ∷ r))

pub one_cluster : (i o p : List ℕ) → is_job_id i ≡ true → is_job_id o ≡ true → begins (cluster_prefix i) p ≡ true
    → begins (cluster_prefix o) p ≡ true → i ≡ o
one_cluster i o p a b h g =
    let x = begins_back (cluster_prefix i) p h in
    let y = begins_back (cluster_prefix o) p g in
    one_job (codes "jobs/") i o x.0 y.0 a b (sym (whole i x.0) ∙ sym x.1 ∙ y.1 ∙ whole o y.0)
  where
    whole : (i r : List ℕ) → cluster_prefix i ++ r ≡ codes "jobs/" ++ (i ++ 47 ∷ r)
    whole i r = ap (λ l. codes "jobs/" ++ l) (append_assoc i (codes "/") r)

-- ---- strangers

pub not_true : {b : Bool} → (b ≡ true → ⊥) → b ≡ false
not_true {b = true} h = absurd (h refl)
not_true {b = false} h = refl

pub twin_stranger : (w v : Script) → IsLegal w → IsLegal v → AreTwins w v → (drawn : Who → List Drawn) (drew : Ids)
    → ((id : ℕ) → IsKnown drawn id → drew id ≡ false) → (r : Request) → NamesOwn w drawn r → IsStranger v drew r
twin_stranger w v j i twins drawn drew apart r own = record {
  keys = λ b k x. elim (own.keys k x) [
    | inl free ↦ no_magic v k (sym (ap (λ (d : Path). not (begins ((d.key ++ codes "/") ++ codes "__magic/") k)) twins.dest) ∙ free)
    | inr mine ↦ not_true (λ h. twins.jobs (one_magic v.dest.key w.job v.job k j.job i.job
        (sym (ap (λ (d : Path). begins (magic_prefix d.key w.job) k) twins.dest) ∙ mine) h))
  ];
  uploads = λ b id e. apart id (own.uploads id e);
  paths = λ p x. not_true (λ h. twins.jobs (one_cluster w.job v.job p j.job i.job (own.paths p x) h));
}

-- ---- a request names what it changes

changes_named : (r : Request) (k : List ℕ) → IsIn k (changed_keys r) → IsIn k (named_keys r)
changes_named r k h = grind arith

upload_named : (r : Request) (id : ℕ) → changed_upload r ≡ Some id → named_upload r ≡ Some id
upload_named r id h = grind arith

paths_named : (r : Request) (p : List ℕ) → IsIn p (changed_paths r) → IsIn p (named_paths r)
paths_named r p h = grind arith

pub stranger_foreign : (v : Script) (drawn : Who → List Drawn) (drew : Ids) → ((id : ℕ) → IsKnown drawn id → drew id ≡ true) → (r : Request)
    → IsStranger v drew r → IsForeign v drawn r
stranger_foreign v drawn drew known r h = record {
  keys = λ b k i. h.keys b k (changes_named r k i);
  uploads = λ b id e x. false_true (h.uploads b id (upload_named r id e)) (known id x);
  paths = λ p i. h.paths p (paths_named r p i);
}
