use Rattle.multipart.proofs.Follow.{first_rest}
use Rattle.s3_types.specs.declared.request.UploadRef.{UploadRef}
use Rattle.std.proofs.Common.{List, length, nat_lt, subst, take, ◌≡◌}
use Rattle.std.specs.Prelude.{IfOk}
use Rattle.multipart.proofs.uploads.Uploads.list_first.Goals as goal

pub page_of-requires-clause-follows : goal.page_of-requires-clause-follows
page_of-requires-clause-follows c =
    (first_rest c.args.prefix.now c.in_ok-clone.field-0 c.args.self.now c.from.result c.from.ensures c.in_ok-clone.ensures.cases).follows

pub page_of-requires-clause-own : goal.page_of-requires-clause-own
page_of-requires-clause-own c =
    (first_rest c.args.prefix.now c.in_ok-clone.field-0 c.args.self.now c.from.result c.from.ensures c.in_ok-clone.ensures.cases).own

pub returns-clause-entries : goal.returns-clause-entries
returns-clause-entries c =
    let rest = first_rest c.args.prefix.now c.in_ok-clone.field-0 c.args.self.now c.from.result c.from.ensures c.in_ok-clone.ensures.cases
    in
    subst (λ (l : List UploadRef). IfOk c.page_of.result (λ page. page.entries ≡ take c.args.limit l)) rest.listed_all
    c.page_of.ensures.entries

pub returns-clause-more : goal.returns-clause-more
returns-clause-more c =
    let rest = first_rest c.args.prefix.now c.in_ok-clone.field-0 c.args.self.now c.from.result c.from.ensures c.in_ok-clone.ensures.cases
    in
    subst (λ (l : List UploadRef). IfOk c.page_of.result (λ page. page.more ≡ nat_lt c.args.limit (length l))) rest.listed_all
    c.page_of.ensures.more
