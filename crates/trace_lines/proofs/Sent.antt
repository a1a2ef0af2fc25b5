-- A line sends the object of its members to a writer, whose text is that of the object.
use Rattle.std.proofs.Common.{List, Some, [], ap, false, length, map, refl, subst, suc, sym, take, ℕ, ◌∷◌, ◌∙◌, ◌≡◌, ◌≤◌, ◌||◌}
use Rattle.std.proofs.lemmas.List.{take_all}
use Rattle.serde.specs.Event.{Log, Logs, WritesEach, WritesSeq, field_key, map_begins, map_ends, seq_begins, seq_ends}
use Rattle.serde.specs.declared.name.Case.TheVariants.{AsIs}
use Rattle.serde_json.proofs.FreeTexts.{text_of_value}
use Rattle.serde_json.specs.Data.{Data, array, object, string}
use Rattle.serde_json.specs.Events.{SendsItems, SendsMembers, SendsValue, items_len, members_len}
use Rattle.serde_json.specs.Sent.{IsTextOf}
use Rattle.serde_json.specs.View.{items_of}
use Rattle.serde_json.specs.Written.{compact_text, has_float, members_have_float}
use Rattle.s3_types.specs.Spelling.{tag_text}
use Rattle.s3_types.specs.Tags.{Spelled}
use Rattle.s3_types.specs.declared.request.NamedPart.{NamedPart}
use Rattle.trace_lines.specs.Lines.{etags, texts}
use Rattle.trace_lines.specs.Members.{data_of, listed}
use Rattle.trace_lines.specs.Requests.{part_objects}
use Rattle.trace_lines.specs.declared.line.Member.{Member}
use Rattle.trace_lines.specs.declared.line.MemberValue.{MemberValue}
use Rattle.trace_lines.specs.declared.line.MemberValue.TheVariants.{Text, Whole, Flag, Tags, Texts, Parts}

-- ---- lists

items_count : {A : Type 0} (f : A → Data) (xs : List A) → items_len (items_of (map f xs)) ≡ length xs
items_count f [] = refl
items_count f (x ∷ xs) = ap suc (items_count f xs)

module _ {A : Type 0} (f : A → Data) where
  -- Sends the data of a value.
  abbrev pub Sends : A → Log → Log → Type 0
  Sends x = SendsValue (f x)

  items_sent : (xs : List A) (first last new : Log) → WritesEach Sends xs first last → Logs last new seq_ends
      → SendsItems (items_of (map f xs)) first new
  items_sent [] first last new same ended = subst (λ l. Logs l new seq_ends) same ended
  items_sent (x ∷ xs) first last new h ended = (h.0, h.1, items_sent xs h.0 last new h.2 ended)

  pub seq_sent : (xs : List A) (old new : Log) → WritesSeq Sends xs old new → SendsValue (array (items_of (map f xs))) old new
  seq_sent xs old new h =
      (h.0, subst (λ n. Logs old h.0 (seq_begins (Some n))) (sym (items_count f xs)) h.2, items_sent xs h.0 h.1 new h.3 h.4)

-- The text of a tag, as data.
abbrev pub tag_data : Spelled → Data
tag_data tag = string (tag_text tag)

at_once : (tags : List Spelled) → map tag_data tags ≡ map string (map tag_text tags)
at_once [] = refl
at_once (t ∷ tags) = ap (λ ds. tag_data t ∷ ds) (at_once tags)

pub tags_sent : (tags : List Spelled) (old new : Log) → WritesSeq (Sends tag_data) tags old new → SendsValue (etags tags) old new
tags_sent tags old new h = subst (λ ds. SendsValue (array (items_of ds)) old new) (at_once tags) (seq_sent tag_data tags old new h)

-- Equal texts send the same.
pub said_is : (s t : List ℕ) (old new : Log) → s ≡ t → SendsValue (string s) old new → SendsValue (string t) old new
said_is s t old new same h = subst (λ x. SendsValue (string x) old new) same h

-- ---- members

-- Sends a member: its name and then its value.
abbrev pub SendsMember : Member → Log → Log → Type 0
SendsMember m old new = (named : Log) × Logs old named (field_key m.name.now AsIs) × SendsValue (data_of m.value) named new

pub members_count : (ms : List Member) → members_len (listed ms) ≡ length ms
members_count [] = refl
members_count (m ∷ ms) = ap suc (members_count ms)

members_sent : (ms : List Member) (first last new : Log) → WritesEach SendsMember ms first last → Logs last new map_ends
    → SendsMembers (listed ms) first new
members_sent [] first last new same ended = subst (λ l. Logs l new map_ends) same ended
members_sent (m ∷ ms) first last new h ended = (h.1.0, h.0, h.1.1, h.1.2, members_sent ms h.0 last new h.2 ended)

pub line_sent : (all ms : List Member) (n i : ℕ) (old first last new : Log) → ms ≡ all → n ≡ length ms → length ms ≤ i
    → Logs old first (map_begins (Some n)) → WritesEach SendsMember (take i ms) first last → Logs last new map_ends
    → SendsValue (object (listed all)) old new
line_sent all ms n i old first last new same count past begun each ended = (
  first,
  subst (λ k. Logs old first (map_begins (Some k))) (count ∙ ap length same ∙ sym (members_count all)) begun,
  members_sent all first last new (subst (λ xs. WritesEach SendsMember xs first last) (take_all i ms past ∙ same) each) ended,
)

-- ---- the text

texts_have_none : (all : List (List ℕ)) → has_float (texts all) ≡ false
texts_have_none [] = refl
texts_have_none (t ∷ all) = texts_have_none all

parts_have_none : (parts : List NamedPart) → has_float (part_objects parts) ≡ false
parts_have_none [] = refl
parts_have_none (p ∷ parts) = parts_have_none parts

value_has_none : (v : MemberValue) → has_float (data_of v) ≡ false
value_has_none (Text s) = refl
value_has_none (Whole n) = refl
value_has_none (Flag b) = refl
value_has_none (Tags tags) = texts_have_none (map tag_text tags.now)
value_has_none (Texts all) = texts_have_none all.now
value_has_none (Parts parts) = parts_have_none parts.now

members_have_none : (ms : List Member) → members_have_float (listed ms) ≡ false
members_have_none [] = refl
members_have_none (m ∷ ms) = ap (λ b. b || members_have_float (listed ms)) (value_has_none m.value) ∙ members_have_none ms

pub line_written : (ms : List Member) (log : Log) (bytes : List ℕ) → SendsValue (object (listed ms)) (Some []) log → IsTextOf log bytes
    → bytes ≡ compact_text (object (listed ms))
line_written ms log bytes sent h = text_of_value (object (listed ms)) log bytes sent h (members_have_none ms)
