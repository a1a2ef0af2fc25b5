-- The bound on the requests that a set-up has left falls.
use Rattle.job_model.specs.Jobs.{Job}
use Rattle.job_protocol.proofs.Faults.{if_bucket_so}
use Rattle.job_protocol.specs.AtWork.{job_script}
use Rattle.job_protocol.specs.Conflicts.{checks_all}
use Rattle.job_protocol.specs.Setup.{Checking, Clearing, Heading, Setup, SetupOver, Sweeping, checked, checked_by, cleared, first_shown}
use Rattle.job_protocol.specs.Setup.{headed, if_bucket, lacks_bucket, setup_asks, setup_hears, sweeping}
use Rattle.job_setup.specs.Fits.{FitsSetup}
use Rattle.job_setup.specs.SetupsEnd.{SetupsEnd}
use Rattle.job_setup.specs.Left.{cleared_left, left_at}
use Rattle.list_walk.proofs.Counting.{one_most}
use Rattle.list_walk.proofs.Falling.{sweep_laws, walk_laws}
use Rattle.list_walk.specs.WalksEnd.{LessWalk}
use Rattle.list_walk.specs.Left.{adds_key, left_of, one_if, walk_left}
use Rattle.list_walk.specs.Walks.{More, Walked, Whole, all_go, keys_on, page_after, sweep_asks, sweep_hears, sweep_start, walked}
use Rattle.s3_types.specs.Answer.{answer, apply}
use Rattle.s3_types.specs.Store.{Scene}
use Rattle.s3_types.specs.declared.reply.Reply.{Reply}
use Rattle.s3_types.specs.declared.reply.Reply.TheVariants.{Head, Page}
use Rattle.s3_types.specs.declared.request.Committer.{Committer}
use Rattle.s3_types.specs.declared.request.Committer.TheVariants.{Magic}
use Rattle.s3_types.specs.declared.request.Request.{Request}
use Rattle.s3_types.specs.declared.request.Request.TheVariants.{DeleteObject, HeadObject}
use Rattle.std.proofs.Common.{List, None, Option, Some, ap, arith, cond, false, inl, inr, refl, subst, sym, true, ℕ, [], ◌++◌, ◌+◌, ◌<◌}
use Rattle.std.proofs.Common.{◌≡◌, ◌≤◌, ◌⊎◌}
use Rattle.std.proofs.lemmas.Option.{same_Some}
use Rattle.std.specs.Prelude.{IfSome, codes}
use Rattle.magic_paths.specs.Layout as layout
use Rattle.job_model.specs.declared.ends.SetupEnd.TheVariants as ends

-- A fact about the current request.
pub of_some : (P : Request → Type 0) (o : Option Request) (r : Request) → o ≡ Some r → IfSome o P → P r
of_some P None r e h = absurd (cc)
of_some P (Some x) r e h = subst P (same_Some x r e) h

cleared_grows : (c : Committer) (j : Job) (s : Scene) (r : Request)
    → cleared_left c j (apply s r) ≤ cleared_left c j s + one_if (adds_key r)
cleared_grows Magic j s r = sweep_laws.others j.dest.bucket (layout.magic_prefix j.dest.key j.job) sweep_start s r
cleared_grows _ j s r = omega arith

-- ---- the bound falls

headed_left : (j : Job) (s : Scene) (r : Reply) → left_at j (headed (job_script j) r) s ≤ 1 + walk_left j.dest.bucket
    (j.dest.key ++ codes "/") [] s + cleared_left j.committer j s
headed_left j s (Head len header) = omega arith
headed_left j s _ =
    elim (checks_all j.committer j.mode) as
    (λ b. left_at j (cond b (Checking []) Clearing) s ≤ 1 + walk_left j.dest.bucket (j.dest.key ++ codes "/") [] s + cleared_left
    j.committer j s)
    [ true ↦ omega arith | false ↦ omega arith ]

by_left : (j : Job) (keys : List (List ℕ)) (s : Scene) (o : Option (List ℕ)) (x : Walked (List ℕ))
    → LessWalk j.dest.bucket (j.dest.key ++ codes "/") s (walk_left j.dest.bucket (j.dest.key ++ codes "/") keys s) x
    → left_at j (checked_by o x) s < left_at j (Checking keys) s
by_left j keys s (Some p) x h = omega arith
by_left j keys s None (More ks) h = omega (arith, h)
by_left j keys s None (Whole ks) h = omega arith

pub never_less : (n : ℕ) → n < n → ⊥
never_less n h = omega arith

checked_left : (j : Job) (keys : List (List ℕ)) (s : Scene) (r : Reply)
    → LessWalk j.dest.bucket (j.dest.key ++ codes "/") s (walk_left j.dest.bucket (j.dest.key ++ codes "/") keys s) (walked keys r)
    → left_at j (checked (job_script j) keys r) s < left_at j (Checking keys) s
checked_left j keys s (Page entries more) h = by_left j keys s (first_shown (job_script j) (keys_on entries))
    (walked keys (Page entries more)) h
checked_left j keys s _ h = absurd (never_less (walk_left j.dest.bucket (j.dest.key ++ codes "/") keys s) h)

abbrev Falls : Job → Setup → Scene → Request → Type 0
Falls j c s r = FitsSetup c (answer s r) → left_at j (setup_hears (job_script j) c (answer s r)) (apply s r) < left_at j c s

-- The bound falls if the set-up goes on, and if it ends because the bucket does not exist.
falls_if : (j : Job) (c : Setup) (s : Scene) (r : Request) (next : Setup) → 0 < left_at j c s → (lacks_bucket (answer s r) ≡ true)
    ⊎ (left_at j next (apply s r) < left_at j c s)
    → left_at j (if_bucket (answer s r) next) (apply s r) < left_at j c s
falls_if j c s r next some (inl h) = subst (λ b. left_at j (cond b (SetupOver ends.NoSuchBucket) next) (apply s r) < left_at j c s) (sym h)
    some
falls_if j c s r next some (inr h) = if_bucket_so (λ m. left_at j m (apply s r) < left_at j c s) (answer s r) next some h

falls_at : (j : Job) (c : Setup) (s : Scene) → IfSome (setup_asks (job_script j) c) (Falls j c s)
falls_at j Heading s = λ h.
    let r = HeadObject j.dest.bucket j.dest.key in
    let l = headed_left j (apply s r) (answer s r) in
    let w = walk_laws.others j.dest.bucket (j.dest.key ++ codes "/") [] s r in
    let c = cleared_grows j.committer j s r in
    falls_if j Heading s r (headed (job_script j) (answer s r)) (omega arith) (inr (omega (arith, l, w, c)))
falls_at j (Checking keys) s = λ h.
    let r = page_after j.dest.bucket (j.dest.key ++ codes "/") keys in
    let next = checked (job_script j) keys (answer s r) in
    falls_if j (Checking keys) s r next (omega arith) (elim h [
      | inl f ↦ inr (subst (λ z. left_at j next z < left_at j (Checking keys) s)
          (sym (walk_laws.still j.dest.bucket (j.dest.key ++ codes "/") keys s))
          (checked_left j keys s (answer s r) (walk_laws.falls j.dest.bucket (j.dest.key ++ codes "/") keys s f)))
      | inr l ↦ inl l
    ])
falls_at j Clearing s = λ h.
    let r = DeleteObject j.dest.bucket (layout.success_key j.dest.key) in
    let c = cleared_grows j.committer j s r in
    let e = elim j.committer as (λ c. left_at j (cleared c) (apply s r) ≡ cleared_left c j (apply s r)) [ Magic ↦ refl | _ ↦ refl ] in
    falls_if j Clearing s r (cleared j.committer) (omega arith) (inr (omega (arith, c, e)))
falls_at j (Sweeping w) s = λ h.
    let r = sweep_asks j.dest.bucket (layout.magic_prefix j.dest.key j.job) w in
    let o = sweep_hears all_go w (answer s r) in
    let e = elim o as (λ o. left_at j (sweeping o) (apply s r) ≡ left_of j.dest.bucket (layout.magic_prefix j.dest.key j.job) o (apply s r))
    [ Some w ↦ refl | None ↦ refl ] in
    falls_if j (Sweeping w) s r (sweeping o) (sweep_laws.some j.dest.bucket (layout.magic_prefix j.dest.key j.job) w s)
    (elim h [
      | inl f ↦ let g = sweep_laws.falls j.dest.bucket (layout.magic_prefix j.dest.key j.job) all_go w s f in inr
          (omega (arith, g, e))
      | inr l ↦ inl l
    ])
falls_at j (SetupOver end) s = tt

some_left : (j : Job) (c : Setup) (s : Scene) → IfSome (setup_asks (job_script j) c) (λ r. 0 < left_at j c s)
some_left j (Sweeping w) s = sweep_laws.some j.dest.bucket (layout.magic_prefix j.dest.key j.job) w s
some_left j (SetupOver end) s = tt
some_left j _ s = omega arith

no_rise_at : (j : Job) (c : Setup) (s : Scene) → IfSome (setup_asks (job_script j) c) (λ r. left_at j c (apply s r) ≤ left_at j c s)
no_rise_at j Heading s =
    let r = HeadObject j.dest.bucket j.dest.key in
    let w = walk_laws.others j.dest.bucket (j.dest.key ++ codes "/") [] s r in
    let c = cleared_grows j.committer j s r in
    omega (arith, w, c)
no_rise_at j (Checking keys) s = let i = ap (left_at j (Checking keys)) (walk_laws.still j.dest.bucket (j.dest.key ++ codes "/") keys s) in
    omega (arith, i)
no_rise_at j Clearing s = let c = cleared_grows j.committer j s (DeleteObject j.dest.bucket (layout.success_key j.dest.key)) in omega
    (arith, c)
no_rise_at j (Sweeping w) s = sweep_laws.no_rise j.dest.bucket (layout.magic_prefix j.dest.key j.job) w s
no_rise_at j (SetupOver end) s = tt

others_at : (j : Job) (c : Setup) (s : Scene) (r : Request) → left_at j c (apply s r) ≤ left_at j c s + 2
others_at j Heading s r =
    let w = walk_laws.others j.dest.bucket (j.dest.key ++ codes "/") [] s r in
    let c = cleared_grows j.committer j s r in
    let o = one_most (adds_key r) in
    omega (arith, w, c, o)
others_at j (Checking keys) s r =
    let w = walk_laws.others j.dest.bucket (j.dest.key ++ codes "/") keys s r in
    let c = cleared_grows j.committer j s r in
    let o = one_most (adds_key r) in
    omega (arith, w, c, o)
others_at j Clearing s r =
    let c = cleared_grows j.committer j s r in
    let o = one_most (adds_key r) in
    omega (arith, c, o)
others_at j (Sweeping w) s r =
    let c = sweep_laws.others j.dest.bucket (layout.magic_prefix j.dest.key j.job) w s r in
    let o = one_most (adds_key r) in
    omega (arith, c, o)
others_at j (SetupOver end) s r = omega arith

pub set_ups_end : SetupsEnd
set_ups_end = record {
  falls = λ m s r b e h. of_some (Falls m.plan m.operation s) _ r e (falls_at m.plan m.operation s) h;
  falls_worn = λ m s r e. of_some (λ r. 0 < left_at m.plan m.operation s) _ r e (some_left m.plan m.operation s);
  no_rise = λ m s r e. of_some (λ r. left_at m.plan m.operation (apply s r) ≤ left_at m.plan m.operation s) _ r e
      (no_rise_at m.plan m.operation s);
  others = λ m s r. others_at m.plan m.operation s r;
}
