-- The members of a line.
use Rattle.std.specs.Prelude.{List, [], ◌∷◌}
use Rattle.serde_json.specs.Data.{Data, Members, boolean, member, no_members, string}
use Rattle.trace_lines.specs.Lines.{etags, texts, whole}
use Rattle.trace_lines.specs.Requests.{part_objects}
use Rattle.trace_lines.specs.declared.line.Line.{Line}
use Rattle.trace_lines.specs.declared.line.Member.{Member}
use Rattle.trace_lines.specs.declared.line.MemberValue.{MemberValue}
use Rattle.trace_lines.specs.declared.line.MemberValue.TheVariants.{Text, Whole, Flag, Tags, Texts, Parts}

-- The value of a member.
abbrev pub data_of : MemberValue → Data
data_of (Text s) = string s.now
data_of (Whole n) = whole n
data_of (Flag b) = boolean b
data_of (Tags tags) = etags tags.now
data_of (Texts all) = texts all.now
data_of (Parts parts) = part_objects parts.now

-- Members that are listed in their order.
abbrev pub listed : List Member → Members
listed [] = no_members
listed (m ∷ ms) = member m.name.now (data_of m.value) (listed ms)

-- The members of a line.
abbrev pub members_of : Line → Members
members_of line = listed line.members.items
