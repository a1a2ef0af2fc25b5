-- The tag of the bytes that were sent.
use Rattle.std.proofs.Common.{Bool, IfSome, List, None, Option, Some, cond, false, option_map, refl, subst, true, ℕ, ◌∙◌, ◌≡◌}
use Rattle.std.specs.FinMap as fin
use Rattle.s3_types.specs.Answer.{answer, answer_at, part_answer}
use Rattle.s3_types.specs.Multipart.{is_part_number, live}
use Rattle.s3_types.specs.Spelling.{tag_text}
use Rattle.s3_types.specs.Store.{BucketContent, Scene, Upload}
use Rattle.s3_types.specs.Tags.{Spelled, plain_tag}
use Rattle.s3_types.specs.declared.reply.Refusal.TheVariants.{BadPartNumber}
use Rattle.s3_types.specs.declared.reply.Reply.{Reply}
use Rattle.s3_types.specs.declared.reply.Reply.TheVariants.{Part, Refused}
use Rattle.s3_types.specs.declared.request.Request.{Request}
use Rattle.s3_types.specs.declared.request.Request.TheVariants.{PutObject, UploadPart}
use Rattle.trace_lines.specs.Requests.{TellsTag, part_tag}

-- The tag of a put or of a part is written as its digits.
plain_text : (bytes : List ℕ) → (plain_tag bytes).digits ≡ tag_text (plain_tag bytes)
unfolding plain_tag
plain_text bytes = refl

-- The digits of the tag of the bytes that are sent are the tag's text.
pub digits_spell : (sent : Option (List ℕ)) (tag : Option Spelled) (digits : List ℕ) → tag ≡ option_map plain_tag sent
    → IfSome tag (λ t. digits ≡ t.digits) → IfSome sent (λ bytes. digits ≡ tag_text (plain_tag bytes))
digits_spell None tag digits same h = tt
digits_spell (Some bytes) tag digits same h =
    let P : Option Spelled → Type 0 = λ o. IfSome o (λ t. digits ≡ t.digits) in
    let here : digits ≡ (plain_tag bytes).digits = subst P same h in
    here ∙ plain_text bytes

-- ---- the reply that S3 must give

part_cond : (b : Bool) (bytes : List ℕ) → IfSome (part_tag (cond b (Part (plain_tag bytes)) (Refused BadPartNumber)))
    (λ tag. tag ≡ plain_tag bytes)
part_cond true bytes = refl
part_cond false bytes = tt

part_due : (u : Option Upload) (n : ℕ) (bytes : List ℕ) → IfSome (part_tag (part_answer u n bytes)) (λ tag. tag ≡ plain_tag bytes)
part_due None n bytes = tt
part_due (Some u) n bytes = part_cond (is_part_number n) bytes

put_at : (b : Option BucketContent) (next minimum : ℕ) (bucket key bytes : List ℕ) (header : Option ℕ)
    → TellsTag (PutObject bucket key bytes header) (answer_at b next minimum (PutObject bucket key bytes header))
put_at None next minimum bucket key bytes header = tt
put_at (Some b) next minimum bucket key bytes header = refl

part_at : (b : Option BucketContent) (next minimum : ℕ) (bucket key : List ℕ) (upload n : ℕ) (bytes : List ℕ)
    → TellsTag (UploadPart bucket key upload n bytes) (answer_at b next minimum (UploadPart bucket key upload n bytes))
part_at None next minimum bucket key upload n bytes = tt
part_at (Some b) next minimum bucket key upload n bytes = part_due (live b.uploads key upload) n bytes

answer_so : (s : Scene) (r : Request) → TellsTag r (answer s r)
answer_so s (PutObject bucket key bytes header) =
    put_at (fin.get s.content.buckets bucket) s.content.next s.content.minimum bucket key bytes header
answer_so s (UploadPart bucket key upload n bytes) =
    part_at (fin.get s.content.buckets bucket) s.content.next s.content.minimum bucket key upload n bytes
answer_so s _ = tt

-- A tag in the reply that S3 must give is that of the bytes that the request sends.
pub answer_tells : (s : Scene) (r : Request) (due : Reply) → answer s r ≡ due → TellsTag r due
answer_tells s r due is = subst (TellsTag r) is (answer_so s r)
