-- The bound on the requests that a check before a commit has left falls.
use Rattle.text_and_lists.proofs.Members.{false_true}
use Rattle.conflict.specs.Fits.{FitsLook}
use Rattle.conflict.specs.ChecksEnd.{ChecksFall}
use Rattle.conflict.specs.Left.{left_at}
use Rattle.job_model.specs.Jobs.{Job}
use Rattle.job_protocol.specs.AtWork.{job_script}
use Rattle.job_protocol.specs.Rechecks.{Check, CheckOver, Looking, Probing, check_asks, check_hears, looked, probed}
use Rattle.job_protocol.specs.Setup.{first_shown, lacks_bucket}
use Rattle.job_setup.proofs.Falling.{never_less, of_some}
use Rattle.list_walk.proofs.Counting.{one_most}
use Rattle.list_walk.proofs.Falling.{walk_laws}
use Rattle.list_walk.specs.WalksEnd.{LessWalk}
use Rattle.list_walk.specs.Left.{adds_key, walk_left}
use Rattle.list_walk.specs.Walks.{More, Walked, Whole, keys_on, page_after, walked}
use Rattle.path_keys.specs.Paths.{below}
use Rattle.s3_types.specs.Answer.{answer, answer_at, apply}
use Rattle.s3_types.specs.Pages.{listed}
use Rattle.s3_types.specs.Store.{BucketContent, Scene}
use Rattle.s3_types.specs.declared.reply.PageEntry.{PageEntry}
use Rattle.s3_types.specs.declared.reply.Reply.{Reply}
use Rattle.s3_types.specs.declared.reply.Reply.TheVariants.{Page}
use Rattle.s3_types.specs.declared.request.Request.{Request}
use Rattle.s3_types.specs.declared.request.Request.TheVariants.{ListPage}
use Rattle.std.proofs.Common.{List, None, Option, Some, ap, arith, false, length, refl, subst, sym, take, ℕ, [], ◌++◌, ◌+◌, ◌<◌, ◌∷◌, ◌≡◌}
use Rattle.std.proofs.Common.{◌≤◌}
use Rattle.std.specs.Prelude.{IfSome, codes}
use Rattle.std.specs.FinMap as fin

-- ---- the look at the whole destination

module _ (j : Job) (keys : List (List ℕ)) (s : Scene) where
  abbrev Less : Walked (List ℕ) → Type 0
  Less x = LessWalk j.dest.bucket (j.dest.key ++ codes "/") s (walk_left j.dest.bucket (j.dest.key ++ codes "/") keys s) x

  by_left : (o : Option (List ℕ)) (x : Walked (List ℕ)) → Less x → left_at j (looked o x) s < left_at j (Looking keys) s
  by_left (Some p) x h = omega arith
  by_left None (More ks) h = h
  by_left None (Whole ks) h = omega arith

  looked_left : (r : Reply) → Less (walked keys r) → left_at j (check_hears (job_script j) (Looking keys) r) s < left_at j (Looking keys) s
  looked_left (Page entries more) h = by_left (first_shown (job_script j) (keys_on entries)) (walked keys (Page entries more)) h
  looked_left _ h = absurd (never_less (walk_left j.dest.bucket (j.dest.key ++ codes "/") keys s) h)

-- ---- the looks below partitions

probed_left : (j : Job) (d : List ℕ) (ds : List (List ℕ)) (entries : List PageEntry) (z : Scene)
    → left_at j (probed d ds entries) z < 1 + length ds
probed_left j d [] [] z = omega arith
probed_left j d (e ∷ ds) [] z = omega arith
probed_left j d ds (e ∷ es) z = omega arith

abbrev key_below : Job → List ℕ → Request
key_below j d = ListPage j.dest.bucket (below j.dest.key (d ++ codes "/")) false [] 1

probing_by : (j : Job) (d : List ℕ) (ds : List (List ℕ)) (z : Scene) (o : Option BucketContent) (next minimum : ℕ)
    → lacks_bucket (answer_at o next minimum (key_below j d)) ≡ false
    → left_at j (check_hears (job_script j) (Probing d ds) (answer_at o next minimum (key_below j d))) z < left_at j (Probing d ds) z
probing_by j d ds z None next minimum h = absurd (false_true h refl)
probing_by j d ds z (Some c) next minimum h = probed_left j d ds (take 1 (listed (below j.dest.key (d ++ codes "/")) false [] c.objects)) z

-- ---- a check

abbrev Falls : Job → Check → Scene → Request → Type 0
Falls j c s r = FitsLook c (answer s r) → left_at j (check_hears (job_script j) c (answer s r)) (apply s r) < left_at j c s

falls_at : (j : Job) (c : Check) (s : Scene) → IfSome (check_asks (job_script j) c) (Falls j c s)
falls_at j (Looking keys) s = λ h.
    let a = answer s (page_after j.dest.bucket (j.dest.key ++ codes "/") keys) in
    subst (λ z. left_at j (check_hears (job_script j) (Looking keys) a) z < left_at j (Looking keys) s)
    (sym (walk_laws.still j.dest.bucket (j.dest.key ++ codes "/") keys s))
    (looked_left j keys s a (walk_laws.falls j.dest.bucket (j.dest.key ++ codes "/") keys s h))
falls_at j (Probing d ds) s = λ h. probing_by j d ds (apply s (key_below j d)) (fin.get s.content.buckets j.dest.bucket) s.content.next
    s.content.minimum h
falls_at j (CheckOver end) s = tt

some_left : (j : Job) (c : Check) (s : Scene) → IfSome (check_asks (job_script j) c) (λ r. 0 < left_at j c s)
some_left j (CheckOver end) s = tt
some_left j _ s = omega arith

no_rise_at : (j : Job) (c : Check) (s : Scene) → IfSome (check_asks (job_script j) c) (λ r. left_at j c (apply s r) ≤ left_at j c s)
no_rise_at j (Looking keys) s = let i = ap (left_at j (Looking keys)) (walk_laws.still j.dest.bucket (j.dest.key ++ codes "/") keys s) in
    omega (arith, i)
no_rise_at j (CheckOver end) s = tt
no_rise_at j _ s = omega arith

others_at : (j : Job) (c : Check) (s : Scene) (r : Request) → left_at j c (apply s r) ≤ left_at j c s + 1
others_at j (Looking keys) s r =
    let w = walk_laws.others j.dest.bucket (j.dest.key ++ codes "/") keys s r in
    let o = one_most (adds_key r) in
    omega (arith, w, o)
others_at j _ s r = omega arith

pub checks_end : ChecksFall
checks_end = record {
  falls = λ m s r b e h. of_some (Falls m.plan.job m.operation s) _ r e (falls_at m.plan.job m.operation s) h;
  falls_worn = λ m s r e. of_some (λ r. 0 < left_at m.plan.job m.operation s) _ r e (some_left m.plan.job m.operation s);
  no_rise = λ m s r e. of_some (λ r. left_at m.plan.job m.operation (apply s r) ≤ left_at m.plan.job m.operation s) _ r e
      (no_rise_at m.plan.job m.operation s);
  others = λ m s r. others_at m.plan.job m.operation s r;
}
