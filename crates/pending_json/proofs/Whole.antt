-- Reading a record in groups of fields gives the same as reading it as a whole.
use Rattle.text_and_lists.specs.Reading.{◌>>=◌}
use Rattle.pending_json.specs.Fields.{as_bucket, as_committer, as_key, as_tags, as_texts, as_u32, as_whole, as_word, field, is_sized}
use Rattle.pending_json.specs.Fields.{members_in, of_kind_if, sizes_in, version_in}
use Rattle.pending_json.specs.inner.Groups.{attempt_in, commits_in, mark_end_in, numbers_in, parts_in, pending_by, set_by, set_end_in}
use Rattle.pending_json.specs.inner.Groups.{success_by}
use Rattle.pending_json.specs.inner.Groups.{target_in}
use Rattle.pending_json.specs.Reading.{pending_in, pendings_in, set_in, success_in}
use Rattle.serde_json.specs.Data.{Data}
use Rattle.serde_json.specs.Find.{as_array, as_str, get}
use Rattle.std.proofs.Common.{Err, Ok, Result, codes, length, refl, ◌∙◌, ◌≡◌}

-- Steps after a group are steps after its last step.
regrouped : {F A B C : Type 0} (r : Result A F) (f : A → Result B F) (g : B → Result C F) → ((r >>= f) >>= g) ≡ (r >>= λ x. f x >>= g)
regrouped (Ok x) f g = refl
regrouped (Err fault) f g = refl

-- The same steps after one step.
behind : {F A B : Type 0} (r : Result A F) (f g : A → Result B F) → ((x : A) → f x ≡ g x) → (r >>= f) ≡ (r >>= g)
behind (Ok x) f g h = h x
behind (Err fault) f g h = refl

three : {F A B C T U : Type 0} (a : Result A F) (b : Result B F) (c : Result C F) (make : A → B → C → T) (k : T → Result U F)
    → ((a >>= λ x. b >>= λ y. c >>= λ z. Ok (make x y z)) >>= k) ≡ (a >>= λ x. b >>= λ y. c >>= λ z. k (make x y z))
three (Ok x) (Ok y) (Ok z) make k = refl
three (Ok x) (Ok y) (Err fault) make k = refl
three (Ok x) (Err fault) c make k = refl
three (Err fault) b c make k = refl

four : {F A B C D T U : Type 0} (a : Result A F) (b : Result B F) (c : Result C F) (last : A → C → Result D F) (make : A → C → D → T)
    (k : T → Result U F)
    → ((a >>= λ x. b >>= λ y. c >>= λ z. last x z >>= λ w. Ok (make x z w)) >>= k) ≡
    (a >>= λ x. b >>= λ y. c >>= λ z. last x z >>= λ w. k (make x z w))
four (Ok x) (Ok y) (Ok z) last make k = regrouped (last x z) (λ w. Ok (make x z w)) k
four (Ok x) (Ok y) (Err fault) last make k = refl
four (Ok x) (Err fault) c last make k = refl
four (Err fault) b c last make k = refl

pub pending_whole : (d : Data) → pending_by d ≡ pending_in d
unfolding pending_by pending_in target_in parts_in numbers_in
pending_whole d = behind (members_in d) _ _ (λ members. behind (is_sized d) _ _ (λ sized.
    three (field as_u32 (codes "attempt") d) (field as_bucket (codes "bucket") d) (field as_key (codes "destination") d) _ _
    ∙ behind (field as_u32 (codes "attempt") d) _ _ (λ attempt. behind (field as_bucket (codes "bucket") d) _ _
    (λ bucket. behind (field as_key (codes "destination") d) _ _ (λ destination.
    four (field as_tags (codes "etags") d) (field (as_word (codes "pending")) (codes "kind") d) (field as_whole (codes "length") d)
    (λ tags total. sizes_in sized (length tags) total d) _ _
    ∙ behind (field as_tags (codes "etags") d) _ _ (λ tags. behind (field (as_word (codes "pending")) (codes "kind") d) _ _
    (λ kind. behind (field as_whole (codes "length") d) _ _ (λ total. behind (sizes_in sized (length tags) total d) _ _ (λ sizes.
    three (field as_u32 (codes "task") d) (field as_whole (codes "upload") d) _ _ _)))))))))

-- Four steps, and what follows them.
steps : {F A B C D T U : Type 0} (a : Result A F) (b : Result B F) (c : Result C F) (d : Result D F) (make : A → C → T) (k : T → Result U F)
    → ((a >>= λ x. b >>= λ y. c >>= λ z. d >>= λ w. Ok (make x z)) >>= k) ≡ (a >>= λ x. b >>= λ y. c >>= λ z. d >>= λ w. k (make x z))
steps (Ok x) (Ok y) (Ok z) d make k = regrouped d (λ w. Ok (make x z)) k
steps (Ok x) (Ok y) (Err fault) d make k = refl
steps (Ok x) (Err fault) c d make k = refl
steps (Err fault) b c d make k = refl

pub set_whole : (d : Data) → set_by d ≡ set_in d
unfolding set_by set_in attempt_in commits_in set_end_in
set_whole d = behind (members_in d) _ _ (λ members.
    regrouped (version_in d) _ _ ∙ behind (version_in d) _ _ (λ version. behind (field as_u32 (codes "attempt") d) _ _ (λ attempt.
    regrouped (field as_array (codes "commits") d) _ _ ∙ behind (field as_array (codes "commits") d) _ _
    (λ items. behind (pendings_in items) _ _ (λ commits.
    steps (field as_str (codes "job") d) (field (as_word (codes "pendingset")) (codes "kind") d) (field as_u32 (codes "task") d) _
    (λ job task. (job, task)) _)))))

pub success_whole : (d : Data) → success_by d ≡ success_in d
unfolding success_by success_in mark_end_in
success_whole d = behind (members_in d) _ _ (λ members. behind (version_in d) _ _
    (λ version. behind (field as_committer (codes "committer") d) _ _ (λ committer. behind (field as_texts (codes "files") d) _ _ (λ files.
    steps (field as_str (codes "job") d) (field (as_word (codes "success")) (codes "kind") d)
    (of_kind_if as_whole (codes "stamp") (get (codes "stamp") d)) _ (λ job stamp. (job, stamp)) _))))
