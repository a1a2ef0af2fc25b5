use Rattle.std.proofs.Common.{[], rules}
use Rattle.std.proofs.lemmas.List.Sorted.{answers_always}
use Rattle.multipart.proofs.Rows.{Searched, searched}
use Rattle.multipart.proofs.part.search.Goals as goal

at_all : (c : goal.After-binary_search_by_key) → Searched c.args.number c.args.held.now c.binary_search_by_key.result
at_all c =
    let facts = c.binary_search_by_key.ensures in
    searched c.args.number c.args.held.now (0, []) c.binary_search_by_key.result c.requires facts.bound
    (facts.position (λ e. e.0) (answers_always _ _ _ (λ f a r g called. search rules)))

pub returns-clause-found : goal.returns-clause-found
returns-clause-found c = (at_all c).found

pub returns-clause-within : goal.returns-clause-within
returns-clause-within c = (at_all c).within

pub returns-clause-absent : goal.returns-clause-absent
returns-clause-absent c = (at_all c).absent

pub returns-clause-place : goal.returns-clause-place
returns-clause-place c = (at_all c).place
