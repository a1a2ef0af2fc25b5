-- If names rise, the first name that a table does not have is the least.
use Rattle.pending_json.proofs.Members.{Above, Rising, above_next, at_first, itself, none_above, same, some_none, turned}
use Rattle.pending_json.proofs.Ordered.{ItemsOrdered, Ordered, field_ordered, tree_ordered}
use Rattle.pending_json.specs.Fields.{only_fields}
use Rattle.pending_json.specs.Reading.{is_field_of}
use Rattle.pending_json.specs.Records.{IsLeastOther, Spell}
use Rattle.pending_json.specs.declared.fault.RecordFault.{RecordFault}
use Rattle.pending_json.specs.declared.fault.RecordFault.TheVariants.{ExtraField}
use Rattle.pending_json.specs.declared.table.Table.{Table}
use Rattle.serde_json.specs.Data.{Data, Items, Members, array, item, member, no_items, no_members, object}
use Rattle.serde_json.specs.Find.{get, get_item, get_member}
use Rattle.std.proofs.Common.{Bool, Equal, Err, Greater, Less, List, Ordering, Result, Some, ap, cond, false, nat_cmp, refl, subst, suc}
use Rattle.std.proofs.Common.{sym, true, true≢false, zero, ℕ, ◌∙◌, ◌≡◌}
use Rattle.std.specs.Cmp.Lexicographic.{slice_cmp}
use Rattle.std.specs.Ordering.{is_le}
use Rattle.std.specs.Prelude.{⊤}

passes_at : (k l : List ℕ) (e : Data) (ms : Members) → (k ≡ l → ⊥) → (o : Ordering) → slice_cmp nat_cmp k l ≡ o
    → get_member k (member l e ms) ≡ get_member k ms
passes_at k l e ms apart Equal is = absurd (apart (same k l is))
passes_at k l e ms apart _ is = rw is refl

passes : (k l : List ℕ) (e : Data) (ms : Members) → (k ≡ l → ⊥) → get_member k (member l e ms) ≡ get_member k ms
passes k l e ms apart = passes_at k l e ms apart _ refl

apart_by : (known : List ℕ → Bool) (k l : List ℕ) → known k ≡ false → known l ≡ true → k ≡ l → ⊥
apart_by known k l out inside is = true≢false (sym inside ∙ sym (ap known is) ∙ out)

-- No name of the object is less than the first.
first_least : (l : List ℕ) (e : Data) (ms : Members) → Above l ms → (k : List ℕ) (v : Data) → get_member k (member l e ms) ≡ Some v
    → (o : Ordering) → slice_cmp nat_cmp k l ≡ o → is_le (slice_cmp nat_cmp l k) ≡ true
first_least l e ms a k v h Less is = some_none v (sym h ∙ none_above k (member l e ms) (is, above_next k l ms is a))
first_least l e ms a k v h Equal is = ap (λ (x : List ℕ). is_le (slice_cmp nat_cmp l x)) (same k l is) ∙ ap is_le (itself l)
first_least l e ms a k v h Greater is = ap is_le (turned k l is)

abbrev Least : (List ℕ → Bool) → Members → List ℕ → Type 0
Least known ms name = (v : Data) × (get_member name ms ≡ Some v) × (known name ≡ false)
    × ((k : List ℕ) (w : Data) → get_member k ms ≡ Some w → known k ≡ false → is_le (slice_cmp nat_cmp name k) ≡ true)

least_here : (known : List ℕ → Bool) (l : List ℕ) (e : Data) (ms : Members) → Above l ms → known l ≡ false → Least known (member l e ms) l
least_here known l e ms a out = (e, at_first l e ms, out, λ k w h _. first_least l e ms a k w h _ refl)

least_later : (known : List ℕ → Bool) (l : List ℕ) (e : Data) (ms : Members) (name : List ℕ) → known l ≡ true → Least known ms name
    → Least known (member l e ms) name
least_later known l e ms name inside m = (
  m.0,
  passes name l e ms (apart_by known name l m.2 inside) ∙ m.1,
  m.2,
  λ k w h out. m.3 k w (sym (passes k l e ms (apart_by known k l out inside)) ∙ h) out,
)

abbrev failing : List ℕ → Result ⊤ RecordFault
failing name = Err (ExtraField name)

one_name : (l name : List ℕ) → failing l ≡ failing name → l ≡ name
one_name l name e = cc

least_at : (known : List ℕ → Bool) (l : List ℕ) (e : Data) (ms : Members) (name : List ℕ) → Above l ms
    → (only_fields known ms ≡ Err (ExtraField name) → Least known ms name)
    → (b : Bool) → known l ≡ b → cond b (only_fields known ms) (Err (ExtraField l)) ≡ Err (ExtraField name)
    → Least known (member l e ms) name
least_at known l e ms name a later true is h = least_later known l e ms name is (later h)
least_at known l e ms name a later false is h = subst (Least known (member l e ms)) (one_name l name h) (least_here known l e ms a is)

least : (known : List ℕ → Bool) (ms : Members) (name : List ℕ) → Rising ms → only_fields known ms ≡ Err (ExtraField name)
    → Least known ms name
least known no_members name r h = absurd cc
least known (member l e ms) name r h = least_at known l e ms name r.0 (least known ms name r.1) _ refl h

is_least : (table : Table) (ms : Members) (name : List ℕ) → Ordered (object ms) → only_fields (is_field_of table) ms ≡ Err (ExtraField name)
    → IsLeastOther table (object ms) name
is_least table ms name o h = let m = least (is_field_of table) ms name o.0 h in record
    { value = m.0; there = m.1; other = m.2; least = m.3 }

pub top_least : (table : Table) (bytes : List ℕ) (ms : Members) (name : List ℕ) → Spell bytes (object ms)
    → only_fields (is_field_of table) ms ≡ Err (ExtraField name) → IsLeastOther table (object ms) name
top_least table bytes ms name e h = is_least table ms name (tree_ordered bytes (object ms) e) h

item_ordered : (ds : Items) (i : ℕ) (d : Data) → ItemsOrdered ds → get_item i ds ≡ Some d → Ordered d
item_ordered no_items i d o h = absurd cc
item_ordered (item e ds) zero d o h = let is : e ≡ d = cc in subst Ordered is o.0
item_ordered (item e ds) (suc i) d o h = item_ordered ds i d o.1 h

pub item_least : (table : Table) (bytes : List ℕ) (d : Data) (field : List ℕ) (ds : Items) (i : ℕ) (ms : Members) (name : List ℕ)
    → Spell bytes d → get field d ≡ Some (array ds) → get_item i ds ≡ Some (object ms)
    → only_fields (is_field_of table) ms ≡ Err (ExtraField name) → IsLeastOther table (object ms) name
item_least table bytes d field ds i ms name e at here h = is_least table ms name
    (item_ordered ds i (object ms) (field_ordered field d (array ds) (tree_ordered bytes d e) at) here) h
