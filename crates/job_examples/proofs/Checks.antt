-- The files that readers see of a store as lists, and the store after a journal.
use Rattle.text_and_lists.proofs.Members.{none_some, some_is, text_exact, text_is, true_or_false}
use Rattle.text_and_lists.proofs.Tree.{tied}
use Rattle.text_and_lists.specs.Order.{text_cmp, text_eq}
use Rattle.job_examples.proofs.Books.{Book, after, applies, at_bucket, content_of, is_ours, scene_of, text_found}
use Rattle.job_examples.proofs.MapLists.{map_of, mapped}
use Rattle.job_examples.specs.Jobs.{lake}
use Rattle.job_protocol.specs.View.{is_file_path, object_at, object_in, view}
use Rattle.path_keys.specs.Paths.{Path, below, relative_in}
use Rattle.s3_types.specs.Moment.{after_all, effect, moment}
use Rattle.s3_types.specs.declared.journal.Entry.{Entry}
use Rattle.s3_types.specs.declared.journal.Outcome.{Outcome}
use Rattle.s3_types.specs.declared.journal.Outcome.TheVariants.{RequestLost, Slow}
use Rattle.s3_types.specs.declared.object.Object.{Object}
use Rattle.s3_types.specs.declared.request.Request.{Request}
use Rattle.std.proofs.Common.{Bool, List, None, Option, Some, ap, arith, codes, cond, drop, false, inl, inr, not, refl, sym, take, true, ℕ}
use Rattle.std.proofs.Common.{[], ◌&&◌, ◌++◌, ◌||◌, ◌∙◌, ◌∷◌, ◌≡◌}
use Rattle.std.proofs.lemmas.Bool.{and_parts, false≢true}
use Rattle.std.proofs.lemmas.Bool.Decides.{Decides-eqb}
use Rattle.std.proofs.lemmas.Slice.Eq.{starts_is}
use Rattle.std.specs.FinMap.Entries.{find}
use Rattle.std.specs.List.{list_all, starts_with}
use Rattle.std.specs.Option.{option_map}
use Rattle.std.specs.Ordering.{eq_by_cmp}
use Rattle.std.specs.Prelude.{nat_eq}

pub implied : (a b : Bool) → (not a || b) ≡ true → a ≡ true → b ≡ true
implied a b h g = grind arith

abbrev pub dest : Path
dest = record { bucket = lake; key = codes "out" }

-- ---- the files that readers see

abbrev pub shown_by : Option (List ℕ) → List ℕ → List (List ℕ × List ℕ) → List (List ℕ × List ℕ)
shown_by None bytes rest = rest
shown_by (Some p) bytes rest = cond (is_file_path p) ((p, bytes) ∷ rest) rest

abbrev pub Listed : Type 0
Listed = List (List ℕ × List ℕ)

abbrev pub same_files : Listed → Listed → Bool
same_files [] [] = true
same_files (x ∷ xs) (y ∷ ys) = text_eq x.0 y.0 && (text_eq x.1 y.1 && same_files xs ys)
same_files _ _ = false

pub files_are : (xs ys : Listed) → same_files xs ys ≡ true → xs ≡ ys
files_are [] [] h = refl
files_are (x ∷ xs) (y ∷ ys) h =
    let p = and_parts (text_eq x.0 y.0) _ h in
    let q = and_parts (text_eq x.1 y.1) _ p.1 in
    λ i. (text_is x.0 y.0 p.0 i, text_is x.1 y.1 q.0 i) ∷ files_are xs ys q.1 i
files_are _ _ h = absurd (false≢true h)

-- The files that readers see, by their paths below the destination.
abbrev pub visible : List (List ℕ × Object) → Listed
visible [] = []
visible (e ∷ es) = shown_by (relative_in (codes "out") e.0) e.1.bytes (visible es)

abbrev files_at : List (List ℕ × Object) → List ℕ → Option (List ℕ)
files_at es p = cond (is_file_path p) (option_map (λ o. o.bytes) (find text_cmp (below (codes "out") p) es)) None

find_shown : (b : Bool) (q bytes : List ℕ) (l : List (List ℕ × List ℕ)) (p : List ℕ)
    → find text_cmp p (cond b ((q, bytes) ∷ l) l) ≡ cond b (cond (eq_by_cmp text_cmp p q) (Some bytes) (find text_cmp p l))
    (find text_cmp p l)
find_shown b q bytes l p = grind arith

merged : (f g e : Bool) (bytes : List ℕ) (x rest : Option (List ℕ)) → (e ≡ true → f ≡ g) → cond f x None ≡ rest
    → cond f (cond e (Some bytes) x) None ≡ cond g (cond e (Some bytes) rest) rest
merged f g e bytes x rest h p = grind arith

same_path : (p q : List ℕ) → eq_by_cmp text_cmp p q ≡ true → p ≡ q
same_path p q h = text_exact p q (tied _ h)

-- The key is not below the destination, or it is that of a path.
data Placed (k : List ℕ) : Type 0 where
  nowhere : relative_in (codes "out") k ≡ None → ((p : List ℕ) → eq_by_cmp text_cmp (below (codes "out") p) k ≡ false) → Placed k
  placed : (q : List ℕ) → relative_in (codes "out") k ≡ Some q → k ≡ below (codes "out") q → Placed k

place : (k : List ℕ) → Placed k
place k =
    elim (relative_in (codes "out") k) as (λ r. relative_in (codes "out") k ≡ r → Placed k) [
      | None ↦ λ h. nowhere h (λ p. elim (true_or_false (eq_by_cmp text_cmp (below (codes "out") p) k))
          [ inl e ↦ absurd (none_some h (ap (relative_in (codes "out")) (sym (same_path (below (codes "out") p) k e)))) | inr e ↦ e ])
      | Some q ↦ λ h. placed q h (elim (true_or_false (starts_with nat_eq k (codes "out/"))) [
        | inl s ↦ (starts_is Decides-eqb k (codes "out/") (starts_with nat_eq k (codes "out/")) refl).0 s ∙ ap
            (λ (l : List ℕ). codes "out/" ++ l) (some_is (sym (ap (λ b. cond b (Some (drop 4 k)) None) s) ∙ h))
        | inr s ↦ absurd (none_some (ap (λ b. cond b (Some (drop 4 k)) None) s) h)
      ])
    ] refl

shown_entry : (p : List ℕ) (e : List ℕ × Object) (es : List (List ℕ × Object)) → Placed e.0 → files_at es p ≡ find text_cmp p (visible es)
    → files_at (e ∷ es) p ≡ find text_cmp p (visible (e ∷ es))
shown_entry p e es (nowhere h n) r =
    ap (λ b. cond (is_file_path p) (option_map (λ (o : Object). o.bytes) (cond b (Some e.1) (find text_cmp (below (codes "out") p) es)))
    None) (n p) ∙ r
    ∙ ap (λ x. find text_cmp p (shown_by x e.1.bytes (visible es))) (sym h)
shown_entry p e es (placed q h k) r =
    ap (λ j. cond (is_file_path p) (option_map (λ (o : Object). o.bytes) (cond (eq_by_cmp text_cmp (below (codes "out") p) j) (Some e.1)
    (find text_cmp (below (codes "out") p) es))) None) k
    ∙ ap (λ x. cond (is_file_path p) x None) (mapped (λ o. o.bytes) (eq_by_cmp text_cmp p q) e.1 (find text_cmp (below (codes "out") p) es))
    ∙ merged (is_file_path p) (is_file_path q) (eq_by_cmp text_cmp p q) e.1.bytes
    (option_map (λ o. o.bytes) (find text_cmp (below (codes "out") p) es)) (find text_cmp p (visible es))
    (λ t. ap is_file_path (same_path p q t)) r
    ∙ sym (find_shown (is_file_path q) q e.1.bytes (visible es) p)
    ∙ ap (λ x. find text_cmp p (shown_by x e.1.bytes (visible es))) (sym h)

shown_all : (es : List (List ℕ × Object)) (p : List ℕ) → files_at es p ≡ find text_cmp p (visible es)
shown_all [] p = elim (is_file_path p) as (λ b. ◌≡◌ {A = Option (List ℕ)} (cond b None None) None) [ true ↦ refl | false ↦ refl ]
shown_all (e ∷ es) p = shown_entry p e es (place e.0) (shown_all es p)

pub views : (b : Book) (p : List ℕ) → view dest (content_of b) p ≡ find text_cmp p (visible b.objects)
views b p = grind (arith, at_bucket, text_found, shown_all)

pub objects_at : (b : Book) (k : List ℕ) → object_at (content_of b) lake k ≡ find text_cmp k b.objects
objects_at b k = ap (λ x. object_in x k) (at_bucket b) ∙ text_found b.objects k

-- ---- the store after each entry of a journal

abbrev pub effect_on : Book → Request → Outcome → Book
effect_on b r Slow = b
effect_on b r RequestLost = b
effect_on b r _ = after b r

pub effect_is : (b : Book) (r : Request) (o : Outcome) → is_ours r ≡ true → effect (scene_of b) r o ≡ scene_of (effect_on b r o)
effect_is b r o h = grind (arith, applies)

abbrev pub book_after : Book → List Entry → Book
book_after b [] = b
book_after b (e ∷ es) = book_after (effect_on b e.request e.outcome) es

abbrev pub are_ours : List Entry → Bool
are_ours es = list_all (λ e. is_ours e.request) es

pub leads : (b : Book) (es : List Entry) → are_ours es ≡ true → after_all (scene_of b) es ≡ scene_of (book_after b es)
leads b [] h = refl
leads b (e ∷ es) h =
    let p = and_parts (is_ours e.request) _ h in
    ap (λ s. after_all s es) (effect_is b e.request e.outcome p.0) ∙ leads (effect_on b e.request e.outcome) es p.1

abbrev pub without_files : Book → Book
without_files b = record { objects = b.objects; uploads = b.uploads; next = b.next; files = [] }

pub moment_is : (b : Book) (es : List Entry) (m : ℕ) → are_ours (take m es) ≡ true
    → moment (content_of (without_files b)) es m ≡ scene_of (book_after (without_files b) (take m es))
unfolding map_of
moment_is b es m h = leads (without_files b) (take m es) h
