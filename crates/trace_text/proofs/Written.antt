-- Texts that are written one after another.
use Rattle.text_and_lists.specs.Order.{text_eq}
use Rattle.job_model.specs.declared.ends.EventEnd.{EventEnd}
use Rattle.job_model.specs.declared.events.Event.{Event}
use Rattle.path_keys.specs.Paths.{Path, below}
use Rattle.s3_types.specs.Pages.{begins}
use Rattle.s3_types.specs.Store.{BucketContent}
use Rattle.std.proofs.Common.{Bool, List, ap, append_assoc, cond, drop, length, refl, sym, true, ℕ, [], ◌++◌, ◌∙◌, ◌∷◌, ◌≡◌, ◌≤◌}
use Rattle.std.proofs.lemmas.List.{append-nil, drop_all}
use Rattle.std.specs.List.{filter, flat_map, zip}
use Rattle.trace_text.specs.Heads.{bucket_lines, object_line}
use Rattle.trace_text.specs.Sends.{Send}
use Rattle.trace_text.specs.Trace.{event_lines}
use Rattle.std.specs.FinMap as fin

-- The objects of the bucket of a path.
pub bucket_written : (dest : Path) (name prefix : List ℕ) (b : List ℕ × BucketContent) (left next : List (List ℕ × BucketContent))
    (text now all : List ℕ)
    → name ≡ dest.bucket → prefix ≡ below dest.key [] → left ≡ b ∷ next → true ≡ text_eq b.0 name
    → now ≡ text ++ flat_map (object_line name) (filter (λ o. begins prefix o.0) (fin.entries b.1.objects))
    → text ++ flat_map (bucket_lines dest) left ≡ all → now ++ flat_map (bucket_lines dest) next ≡ all
bucket_written dest name prefix b left next text now all named below_dest goes_on same written so_far =
    let lines = λ (bucket begin : List ℕ). flat_map (object_line bucket) (filter (λ o. begins begin o.0) (fin.entries b.1.objects)) in
    let rest = flat_map (bucket_lines dest) next in
    let passed : true ≡ text_eq b.0 dest.bucket = same ∙ ap (text_eq b.0) named in
    let here : lines dest.bucket (below dest.key []) ≡ bucket_lines dest b =
    ap (λ (t : Bool). cond t (lines dest.bucket (below dest.key [])) []) passed in
    (λ i. written i ++ rest)
    ∙ (λ i. (text ++ lines (named i) (below_dest i)) ++ rest)
    ∙ (λ i. (text ++ here i) ++ rest)
    ∙ append_assoc text (bucket_lines dest b) rest
    ∙ ap (λ (l : List (List ℕ × BucketContent)). text ++ flat_map (bucket_lines dest) l) (sym goes_on)
    ∙ so_far

no_pairs : (events : List Event) → zip {K = Event} {X = EventEnd} events [] ≡ []
no_pairs [] = refl
no_pairs (e ∷ es) = refl

-- No event is left after the last end.
pub all_events : (n place : ℕ) (events : List Event) (ends : List EventEnd) (sends : List Send) (text all : List ℕ) → length ends ≤ place
    → text ++ event_lines n (zip (drop place events) (drop place ends)) sends ≡ all → text ≡ all
all_events n place events ends sends text all over so_far =
    let no_end = ap (zip (drop place events)) (drop_all place ends over) ∙ no_pairs (drop place events) in
    sym (append-nil text) ∙ ap (λ (l : List (Event × EventEnd)). text ++ event_lines n l sends) (sym no_end) ∙ so_far

-- Three texts after another.
pub three_written : (none first second all x y z : List ℕ) → first ≡ none ++ x → second ≡ first ++ y → all ≡ second ++ z
    → all ≡ none ++ (x ++ (y ++ z))
three_written none first second all x y z one two three =
    three ∙ ap (λ l. l ++ z) (two ∙ ap (λ l. l ++ y) one) ∙ append_assoc (none ++ x) y z ∙ append_assoc none x (y ++ z)
