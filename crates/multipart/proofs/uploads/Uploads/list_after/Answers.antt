use Rattle.text_and_lists.proofs.Less.{lt}
use Rattle.text_and_lists.specs.Order.{text_cmp}
use Rattle.multipart.proofs.Follow.{first_after, later_rest}
use Rattle.s3_types.specs.declared.request.UploadRef.{UploadRef}
use Rattle.std.proofs.Common.{List, false, length, nat_lt, subst, take, true, ◌∙◌, ◌≡◌}
use Rattle.std.specs.Prelude.{IfOk}
use Rattle.multipart.proofs.uploads.Uploads.list_after.Goals as goal

pub returns-then-is_lt-clause-entries : goal.returns-then-is_lt-clause-entries
returns-then-is_lt-clause-entries c =
    let l : lt text_cmp c.args.last.now.key c.args.prefix.now ≡ true = cc in
    subst (λ (l : List UploadRef). IfOk c.list_first.result (λ page. page.entries ≡ take c.args.limit l))
    (first_after c.args.prefix.now c.args.last.now c.args.self.now l) c.list_first.ensures.entries

pub returns-then-is_lt-clause-more : goal.returns-then-is_lt-clause-more
returns-then-is_lt-clause-more c =
    let l : lt text_cmp c.args.last.now.key c.args.prefix.now ≡ true = cc in
    subst (λ (l : List UploadRef). IfOk c.list_first.result (λ page. page.more ≡ nat_lt c.args.limit (length l)))
    (first_after c.args.prefix.now c.args.last.now c.args.self.now l) c.list_first.ensures.more

pub page_of-requires-clause-follows : goal.page_of-requires-clause-follows
page_of-requires-clause-follows c =
    let l : lt text_cmp c.args.last.now.key c.args.prefix.now ≡ false = cc in
    (later_rest c.args.prefix.now c.args.last.now (record { key = c.in_ok-clone.field-0; upload = c.args.last.now.upload }) c.args.self.now
    c.from.result c.from.ensures (λ i. record {
      key = (c.in_ok-clone.ensures.cases ∙ c.as_text-2.ensures.text) i;
      upload =
          c.args.last.now.upload;
    }) l).follows

pub page_of-requires-clause-own : goal.page_of-requires-clause-own
page_of-requires-clause-own c =
    let l : lt text_cmp c.args.last.now.key c.args.prefix.now ≡ false = cc in
    (later_rest c.args.prefix.now c.args.last.now (record { key = c.in_ok-clone.field-0; upload = c.args.last.now.upload }) c.args.self.now
    c.from.result c.from.ensures (λ i. record {
      key = (c.in_ok-clone.ensures.cases ∙ c.as_text-2.ensures.text) i;
      upload =
          c.args.last.now.upload;
    }) l).own

pub returns-clause-entries : goal.returns-clause-entries
returns-clause-entries c =
    let l : lt text_cmp c.args.last.now.key c.args.prefix.now ≡ false = cc in
    let rest = later_rest c.args.prefix.now c.args.last.now (record { key = c.in_ok-clone.field-0; upload = c.args.last.now.upload })
    c.args.self.now c.from.result c.from.ensures (λ i. record
    { key = (c.in_ok-clone.ensures.cases ∙ c.as_text-2.ensures.text) i; upload = c.args.last.now.upload }) l in
    subst (λ (l : List UploadRef). IfOk c.page_of.result (λ page. page.entries ≡ take c.args.limit l)) rest.listed_all
    c.page_of.ensures.entries

pub returns-clause-more : goal.returns-clause-more
returns-clause-more c =
    let l : lt text_cmp c.args.last.now.key c.args.prefix.now ≡ false = cc in
    let rest = later_rest c.args.prefix.now c.args.last.now (record { key = c.in_ok-clone.field-0; upload = c.args.last.now.upload })
    c.args.self.now c.from.result c.from.ensures (λ i. record
    { key = (c.in_ok-clone.ensures.cases ∙ c.as_text-2.ensures.text) i; upload = c.args.last.now.upload }) l in
    subst (λ (l : List UploadRef). IfOk c.page_of.result (λ page. page.more ≡ nat_lt c.args.limit (length l))) rest.listed_all
    c.page_of.ensures.more
