-- In a tree that serde_json reads, the names of each object rise.
use Rattle.json.specs.Lex.{tokens}
use Rattle.pending_json.proofs.Members.{Rising, put_rising}
use Rattle.pending_json.specs.Reading.{tree_read}
use Rattle.serde_json.specs.Data.{Data, Items, Members, array, boolean, item, member, no_items, no_members, null, number, object, put}
use Rattle.serde_json.specs.Data.{string}
use Rattle.serde_json.specs.Find.{get, get_member}
use Rattle.serde_json.specs.Read.{max_depth, number_of, of_items, of_json, of_members, read}
use Rattle.std.proofs.Common.{Bool, Equal, Greater, Less, List, None, Option, Ordering, Some, cond, false, nat_cmp, option_and_then}
use Rattle.std.proofs.Common.{option_map, refl, subst, true, ℕ, ◌≡◌}
use Rattle.std.proofs.lemmas.Option.{option_and_then_some}
use Rattle.std.specs.Cmp.Lexicographic.{slice_cmp}
use Rattle.std.specs.Ordering.{match_ordering}
use Rattle.std.specs.Prelude.{⊤}
use Rattle.json.specs.Json as json

abbrev mutual
  pub Ordered : Data → Type 0
  Ordered null = ⊤
  Ordered (boolean b) = ⊤
  Ordered (number n) = ⊤
  Ordered (string s) = ⊤
  Ordered (array ds) = ItemsOrdered ds
  Ordered (object ms) = Rising ms × MembersOrdered ms

  pub ItemsOrdered : Items → Type 0
  ItemsOrdered no_items = ⊤
  ItemsOrdered (item d ds) = Ordered d × ItemsOrdered ds

  pub MembersOrdered : Members → Type 0
  MembersOrdered no_members = ⊤
  MembersOrdered (member k d ms) = Ordered d × MembersOrdered ms

put_ordered_at : (o : Ordering) (k l : List ℕ) (d e : Data) (ms : Members) → Ordered d → MembersOrdered (member l e ms)
    → MembersOrdered (put k d ms)
    → MembersOrdered (match_ordering o (member k d (member l e ms)) (member l d ms) (member l e (put k d ms)))
put_ordered_at Less k l d e ms a b later = (a, b)
put_ordered_at Equal k l d e ms a b later = (a, b.1)
put_ordered_at Greater k l d e ms a b later = (b.0, later)

put_ordered : (k : List ℕ) (d : Data) (ms : Members) → Ordered d → MembersOrdered ms → MembersOrdered (put k d ms)
put_ordered k d no_members a b = (a, tt)
put_ordered k d (member l e ms) a b = put_ordered_at (slice_cmp nat_cmp k l) k l d e ms a b (put_ordered k d ms a b.1)

some_to : {A : Type 0} (P : A → Type 0) (x y : A) → Some x ≡ Some y → P x → P y
some_to P x y e p = let same : x ≡ y = cc in subst P same p

map_to : {A B : Type 0} (P : B → Type 0) (f : A → B) (o : Option A) (y : B) → option_map f o ≡ Some y → ((x : A) → o ≡ Some x → P (f x))
    → P y
map_to P f None y e h = absurd cc
map_to P f (Some x) y e h = some_to P (f x) y e (h x refl)

mutual
  json_ordered : (j : json.Json) (d : Data) → of_json j ≡ Some d → Ordered d
  json_ordered json.null d e = some_to Ordered null d e tt
  json_ordered (json.boolean b) d e = some_to Ordered (boolean b) d e tt
  json_ordered (json.number s) d e = map_to Ordered number (number_of s) d e (λ x h. tt)
  json_ordered (json.string s) d e = some_to Ordered (string s) d e tt
  json_ordered (json.array ds) d e = map_to Ordered array (of_items ds) d e (λ x h. items_ordered ds x h)
  json_ordered (json.object ms) d e = map_to Ordered object (of_members ms no_members) d e (λ x h. members_ordered ms no_members x h tt tt)

  items_ordered : (all : json.Items) (ds : Items) → of_items all ≡ Some ds → ItemsOrdered ds
  items_ordered json.no_items ds e = some_to ItemsOrdered no_items ds e tt
  items_ordered (json.item j js) ds e = option_and_then_some (λ d. option_map (item d) (of_items js)) (of_json j) ds e
      (λ d e1 e2. map_to ItemsOrdered (item d) (of_items js) ds e2 (λ x h. (json_ordered j d e1, items_ordered js x h)))

  members_ordered : (ms : json.Members) (found all : Members) → of_members ms found ≡ Some all → Rising found → MembersOrdered found
      → Rising all × MembersOrdered all
  members_ordered json.no_members found all e r o = some_to (λ x. Rising x × MembersOrdered x) found all e (r, o)
  members_ordered (json.member k j ms) found all e r o = option_and_then_some (λ d. of_members ms (put k d found)) (of_json j) all e
      (λ d e1 e2. members_ordered ms (put k d found) all e2 (put_rising k d found r) (put_ordered k d found (json_ordered j d e1) o))

read_ordered : (bytes : List ℕ) (d : Data) → read bytes ≡ Some d → Ordered d
read_ordered bytes d e = option_and_then_some of_json (option_and_then (λ p. json.if_last p.0 p.1) (json.value max_depth (tokens bytes))) d
    e (λ j e1 e2. json_ordered j d e2)

at_read : (b : Bool) (bytes : List ℕ) (d : Data) → cond b (read bytes) None ≡ Some d → Ordered d
at_read true bytes d e = read_ordered bytes d e
at_read false bytes d e = absurd cc

pub tree_ordered : (bytes : List ℕ) (d : Data) → tree_read bytes ≡ Some d → Ordered d
tree_ordered bytes d e = at_read _ bytes d e

member_ordered_at : (o : Ordering) (k l : List ℕ) (e v : Data) (ms : Members) → Ordered e → (get_member k ms ≡ Some v → Ordered v)
    → match_ordering o (get_member k ms) (Some e) (get_member k ms) ≡ Some v → Ordered v
member_ordered_at Equal k l e v ms a later h = some_to Ordered e v h a
member_ordered_at _ k l e v ms a later h = later h

member_ordered : (k : List ℕ) (ms : Members) (v : Data) → MembersOrdered ms → get_member k ms ≡ Some v → Ordered v
member_ordered k no_members v o h = absurd cc
member_ordered k (member l e ms) v o h = member_ordered_at (slice_cmp nat_cmp k l) k l e v ms o.0 (member_ordered k ms v o.1) h

-- The value of a field of such a tree is such a tree.
pub field_ordered : (name : List ℕ) (d v : Data) → Ordered d → get name d ≡ Some v → Ordered v
field_ordered name null v o h = absurd cc
field_ordered name (boolean b) v o h = absurd cc
field_ordered name (number n) v o h = absurd cc
field_ordered name (string s) v o h = absurd cc
field_ordered name (array ds) v o h = absurd cc
field_ordered name (object ms) v o h = member_ordered name ms v o.1 h
