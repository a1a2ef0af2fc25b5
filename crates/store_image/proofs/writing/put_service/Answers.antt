use Rattle.std.proofs.Common.{List, ap, append_assoc, ℕ, ◌++◌, ◌∙◌, ◌≡◌}
use Rattle.std.proofs.lemmas.Result.{on_ok_weaker}
use Rattle.std.specs.Int.{to_be_bytes, w64}
use Rattle.store_image.specs.Image.{magic}
use Rattle.store_image.proofs.writing.put_service.Goals as goal

-- Four texts that are appended to a text, one after another.
four : (o m a b d w x y z : List ℕ) → w ≡ o ++ m → x ≡ w ++ a → y ≡ x ++ b → z ≡ y ++ d → z ≡ o ++ (m ++ (a ++ (b ++ d)))
four o m a b d w x y z first second third fourth =
    fourth ∙ ap (λ (l : List ℕ). l ++ d) third ∙ append_assoc x b d ∙ ap (λ (l : List ℕ). l ++ (b ++ d)) second ∙ append_assoc w a (b ++ d)
    ∙ ap (λ (l : List ℕ). l ++ (a ++ (b ++ d))) first ∙ append_assoc o m (a ++ (b ++ d))

pub returns : goal.returns
returns c = on_ok_weaker c.put_buckets.result (λ last. four c.args.out.now.items magic _ _ _ _ _ _ _
    c.in_ok-extend_from_slice.ensures.items
    (c.in_ok-put_u64.ensures ∙ ap (λ (n : ℕ). c.extend_from_slice.new.self.items ++ to_be_bytes w64 n) c.minimum.ensures.minimum)
    (c.in_ok-put_u64-2.ensures ∙ ap (λ (n : ℕ). c.put_u64.new.out.items ++ to_be_bytes w64 n) c.next_upload.ensures.next)
    last) c.put_buckets.ensures
