-- A page moves keys from those that are to come to those that are known.
use Rattle.text_and_lists.proofs.Naturals.{below_is}
use Rattle.list_walk.proofs.Listing.{behind_page, last_append, last_from}
use Rattle.list_walk.specs.Fitting.{FitsPage}
use Rattle.list_walk.specs.Left.{count_in, keys_left}
use Rattle.list_walk.specs.Walks.{More, Walked, Whole, keys_on, last_of, page_after, walked, walked_by}
use Rattle.s3_types.specs.Answer.{answer, answer_at}
use Rattle.s3_types.specs.Pages.{listed, text_in}
use Rattle.s3_types.specs.Store.{BucketContent, Scene}
use Rattle.s3_types.specs.declared.reply.PageEntry.{PageEntry}
use Rattle.std.proofs.Common.{Bool, List, None, Option, Some, ap, arith, false, length, length-append, length-drop, nat_lt, refl, take}
use Rattle.std.proofs.Common.{true, ℕ, ◌++◌, ◌+◌, ◌-◌, ◌<◌, ◌∙◌, ◌≡◌, ◌≤◌}
use Rattle.std.proofs.lemmas.List.{length-map, length-take}
use Rattle.std.specs.FinMap as fin

-- The keys known and those to come are no more than before; if more pages follow, fewer keys are to come.
abbrev pub Moved : List ℕ → List ℕ → Scene → (all more : ℕ) → Walked (List ℕ) → Type 0
Moved b p s all more (More keys) = (length keys + keys_left b p (last_of keys) s ≤ all) × (keys_left b p (last_of keys) s < more)
Moved b p s all more (Whole keys) = length keys ≤ all

module _ (b p : List ℕ) (keys : List (List ℕ)) (s : Scene) where
  -- The keys on a page are as many as its entries.
  known : (l : List PageEntry) → length (keys ++ keys_on (take 1000 l)) ≡ length keys + length (take 1000 l)
  known l = length-append keys (keys_on (take 1000 l)) ∙ ap (λ n. length keys + n) (length-map (take 1000 l) text_in)

  to_come : (c : BucketContent) → fin.get s.content.buckets b ≡ Some c → (l : List PageEntry) → listed p false (last_of keys) c.objects ≡ l
      → keys_left b p (last_of keys) s ≡ length l
  to_come c e l h = ap (count_in (λ c. length (listed p false (last_of keys) c.objects))) e ∙ ap length h

  left_then : (c : BucketContent) → fin.get s.content.buckets b ≡ Some c → (l : List PageEntry)
      → listed p false (last_of keys) c.objects ≡ l → keys_left b p (last_of (keys ++ keys_on (take 1000 l))) s ≡ length l - 1000
  left_then c e l h =
      ap (λ a. keys_left b p a s) (last_append keys (keys_on (take 1000 l)))
      ∙ ap (count_in (λ c. length (listed p false (last_from (last_of keys) (keys_on (take 1000 l))) c.objects))) e
      ∙ ap length (behind_page p (last_of keys) c.objects 1000 l h)
      ∙ length-drop 1000 l

  by_page : (c : BucketContent) → fin.get s.content.buckets b ≡ Some c → (l : List PageEntry) → listed p false (last_of keys) c.objects ≡ l
      → (t : Bool) → nat_lt 1000 (length l) ≡ t
      → Moved b p s (length keys + keys_left b p (last_of keys) s) (keys_left b p (last_of keys) s)
      (walked_by t (keys ++ keys_on (take 1000 l)))
  by_page c e l h true t =
      let i = left_then c e l h in let j = to_come c e l h in let k = below_is 1000 (length l) t in let u = length-take 1000 l in let v =
      known l in
      (omega (arith, i, j, k, u, v), omega (arith, i, j, k))
  by_page c e l h false t = let j = to_come c e l h in let u = length-take 1000 l in let v = known l in omega (arith, j, u, v)

  by_bucket : (o : Option BucketContent) → fin.get s.content.buckets b ≡ o
      → FitsPage (answer_at o s.content.next s.content.minimum (page_after b p keys))
      → Moved b p s (length keys + keys_left b p (last_of keys) s) (keys_left b p (last_of keys) s)
      (walked keys (answer_at o s.content.next s.content.minimum (page_after b p keys)))
  by_bucket None e h = absurd h
  by_bucket (Some c) e h = by_page c e (listed p false (last_of keys) c.objects) refl
      (nat_lt 1000 (length (listed p false (last_of keys) c.objects))) refl

  pub page_moves : FitsPage (answer s (page_after b p keys))
      → Moved b p s (length keys + keys_left b p (last_of keys) s) (keys_left b p (last_of keys) s)
      (walked keys (answer s (page_after b p keys)))
  page_moves h = by_bucket (fin.get s.content.buckets b) refl h
