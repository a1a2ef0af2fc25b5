-- The last of a list.
use Rattle.list_walk.specs.Walks.{keys_on, last_of, last_ref}
use Rattle.s3_types.specs.Pages.{text_in}
use Rattle.s3_types.specs.declared.reply.PageEntry.{PageEntry}
use Rattle.s3_types.specs.declared.request.UploadRef.{UploadRef}
use Rattle.std.proofs.Common.{List, Option, Some, ap, arith, length, suc, sym, zero, ℕ, [], ◌-◌, ◌∷◌, ◌≡◌}
use Rattle.std.specs.List.{slice_get}

last_got : (es : List PageEntry) (n : ℕ) (e : PageEntry) → suc n ≡ length es → slice_get es n ≡ Some e → last_of (keys_on es) ≡ text_in e
last_got (x ∷ []) zero e l h = let i : x ≡ e = cc in ap text_in i
last_got (x ∷ y ∷ es) (suc n) e l h = last_got (y ∷ es) n e (omega arith) h
last_got _ _ e l h = absurd (omega arith)

pub ref_got : (a : Option UploadRef) (refs : List UploadRef) (n : ℕ) (r : UploadRef) → suc n ≡ length refs → slice_get refs n ≡ Some r
    → last_ref a refs ≡ Some r
ref_got a (q ∷ []) zero r e h = h
ref_got a (q ∷ s ∷ refs) (suc n) r e h = ref_got (Some q) (s ∷ refs) n r (omega arith) h
ref_got a _ _ r e h = absurd (omega arith)

some_length : {X : Type 0} (xs : List X) (x : X) → slice_get xs (length xs - 1) ≡ Some x → suc (length xs - 1) ≡ length xs
some_length [] x h = absurd (cc)
some_length (y ∷ ys) x h = omega arith

pub last_text_is : (entries : List PageEntry) (e : PageEntry) → Some e ≡ slice_get entries (length entries - 1)
    → last_of (keys_on entries) ≡ text_in e
last_text_is entries e h = last_got entries (length entries - 1) e (some_length entries e (sym h)) (sym h)

pub last_ref_is : (a : Option UploadRef) (refs : List UploadRef) (r : UploadRef) → Some r ≡ slice_get refs (length refs - 1)
    → last_ref a refs ≡ Some r
last_ref_is a refs r h = ref_got a refs (length refs - 1) r (some_length refs r (sym h)) (sym h)
