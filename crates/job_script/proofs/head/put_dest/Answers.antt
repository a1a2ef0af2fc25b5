use Rattle.std.proofs.Common.{OnOk, append_assoc, codes, string_bytes, subst, sym, [], ◌++◌, ◌∙◌, ◌∷◌, ◌≡◌}
use Rattle.std.proofs.lemmas.List.{append-nil}
use Rattle.job_script.proofs.head.put_dest.Goals as goal

pub returns : goal.returns
returns c =
    let dest = c.args.dest.now in
    let bucket = c.as_str-bucket.ensures ∙ c.as_text.ensures.text ∙ c.bucket.ensures in
    let key = c.as_str-key.ensures ∙ c.key.ensures.text in
    subst (λ t. OnOk c.write.result (string_bytes c.write.new.self ≡ string_bytes c.args.out.now ++ (codes "dest s3a://" ++ t)))
    ((λ i. bucket i ++ 47 ∷ (key i ++ 10 ∷ [])) ∙ sym (append_assoc dest.bucket (47 ∷ dest.key) (10 ∷ [])) ∙ sym (append-nil _))
    c.write.ensures.bytes
