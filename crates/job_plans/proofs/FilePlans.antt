-- The files of a legal script at their paths below the destination: each path occurs once.
use Rattle.text_and_lists.proofs.Members.{false_true, text_is, text_true}
use Rattle.text_and_lists.specs.Order.{text_eq}
use Rattle.job_model.proofs.Unique.{path_same}
use Rattle.job_model.specs.Files.{File, has_path}
use Rattle.job_model.specs.Legal.{AreFiles, IsGiven, bytes_of}
use Rattle.job_model.specs.Placed.{path_of, placed}
use Rattle.job_model.specs.Plans.{ArePlaced, IsPlaced}
use Rattle.s3_types.specs.Names.{is_job_id}
use Rattle.std.proofs.Common.{Bool, List, Some, ap, append_assoc, cond, false, inl, inr, is_some, length, refl, subst, sym, true, ℕ, []}
use Rattle.std.proofs.Common.{◌++◌, ◌+◌, ◌∙◌, ◌∷◌, ◌≡◌}
use Rattle.std.proofs.lemmas.List.{append-nil, length-map, map-append}
use Rattle.std.specs.Map.{lookup}

-- A file at its path.
abbrev one_placed : Bool → List ℕ → File → File
one_placed unique id f = (path_of unique id f.0, f.1)

placed_more : (unique : Bool) (id : List ℕ) (f : File) (fs : List File)
    → placed unique id (fs ++ f ∷ []) ≡ placed unique id fs ++ one_placed unique id f ∷ []
placed_more unique id f fs = map-append (one_placed unique id) fs (f ∷ [])

-- ---- paths stay different

other_path : (unique : Bool) (id p q : List ℕ) → is_job_id id ≡ true → text_eq p q ≡ false
    → text_eq (path_of unique id p) (path_of unique id q) ≡ false
other_path unique id p q job h = by (text_eq (path_of unique id p) (path_of unique id q)) refl
  where
    by : (b : Bool) → text_eq (path_of unique id p) (path_of unique id q) ≡ b → b ≡ false
    by true e = absurd (false_true h (text_true p q (path_same unique id p q job (text_is (path_of unique id p) (path_of unique id q) e))))
    by false e = refl

-- A path that no file has.
still_free : (unique : Bool) (id p : List ℕ) (fs : List File) → is_job_id id ≡ true → has_path fs p ≡ false
    → has_path (placed unique id fs) (path_of unique id p) ≡ false
still_free unique id p [] job h = refl
still_free unique id p (f ∷ fs) job h = by (text_eq p f.0) refl h (still_free unique id p fs job)
  where
    by : (b : Bool) → text_eq p f.0 ≡ b → is_some (cond b (Some f.1) (lookup (text_eq p) fs)) ≡ false
        → (has_path fs p ≡ false → has_path (placed unique id fs) (path_of unique id p) ≡ false)
        → has_path (placed unique id (f ∷ fs)) (path_of unique id p) ≡ false
    by true e h old = absurd cc
    by false e h old = rw (other_path unique id p f.0 job e) (old h)

-- The path of a file after others.
first_here : (before done rest : List File) (f : File) → AreFiles before (done ++ f ∷ rest) → has_path (before ++ done) f.0 ≡ false
first_here before [] rest f h = subst (λ (l : List File). has_path l f.0 ≡ false) (sym (append-nil before)) h.1
first_here before (d ∷ done) rest f h = subst (λ (l : List File). has_path l f.0 ≡ false) (append_assoc before (d ∷ []) done)
    (first_here (before ++ d ∷ []) done rest f h.2)

-- ---- files that are placed one by one

-- Holds if the files so far are placed, and the rest are left.
pub record IsPlacing (unique : Bool) (id : List ℕ) (files copy rest : List File) : Type 0 where
  pub done : List File
  pub all : files ≡ done ++ rest
  pub so_far : copy ≡ placed unique id done

pub next_free : {unique : Bool} {id : List ℕ} {files copy all rest : List File} {f : File} → is_job_id id ≡ true → AreFiles [] files
    → IsPlacing unique id files copy all → all ≡ f ∷ rest
    → has_path copy (path_of unique id f.0) ≡ false
next_free {unique = unique} {id = id} {rest = rest} {f = f} job h p e =
    let here : has_path p.done f.0 ≡ false = first_here [] p.done rest f (subst (AreFiles [])
    (p.all ∙ ap (λ (l : List File). p.done ++ l) e) h) in
    subst (λ (l : List File). has_path l (path_of unique id f.0) ≡ false) (sym p.so_far) (still_free unique id f.0 p.done job here)

pub next_placed : {unique : Bool} {id : List ℕ} {files copy all rest more : List File} {f g : File} → IsPlacing unique id files copy all
    → all ≡ f ∷ rest → g.0 ≡ path_of unique id f.0 → g.1 ≡ f.1 → more ≡ copy ++ g ∷ []
    → IsPlacing unique id files more rest
next_placed {unique = unique} {id = id} {copy = copy} {rest = rest} {f = f} {g = g} p e path bytes made = record {
  done = p.done ++ f ∷ [];
  all = p.all ∙ ap (λ (l : List File). p.done ++ l) e ∙ sym (append_assoc p.done (f ∷ []) rest);
  so_far =
      made
      ∙ ap (λ (x : List ℕ). copy ++ (x, g.1) ∷ []) path
      ∙ ap (λ (b : List ℕ). copy ++ (path_of unique id f.0, b) ∷ []) bytes
      ∙ ap (λ (l : List File). l ++ one_placed unique id f ∷ []) p.so_far
      ∙ sym (placed_more unique id f p.done);
}

pub all_placed : {unique : Bool} {id : List ℕ} {files copy rest : List File} → IsPlacing unique id files copy rest → rest ≡ []
    → copy ≡ placed unique id files
all_placed {unique = unique} {id = id} p e = p.so_far ∙ ap (placed unique id)
    (sym (p.all ∙ ap (λ (l : List File). p.done ++ l) e ∙ append-nil p.done))

-- ---- the bounds of a plan

is_placed : (unique : Bool) (id p : List ℕ) → IsGiven p → IsPlaced id (path_of unique id p)
is_placed true id p g = inr (p, g, refl)
is_placed false id p g = inl g

pub are_placed : (unique : Bool) (id : List ℕ) (before fs : List File) → is_job_id id ≡ true → AreFiles before fs
    → ArePlaced id (placed unique id before) (placed unique id fs)
are_placed unique id before [] job h = tt
are_placed unique id before (f ∷ fs) job h = (
  is_placed unique id f.0 h.0.path,
  h.0.bytes,
  still_free unique id f.0 before job h.1,
  subst (λ (l : List File). ArePlaced id l (placed unique id fs)) (placed_more unique id f before)
      (are_placed unique id (before ++ f ∷ []) fs job h.2),
)

pub as_many : (unique : Bool) (id : List ℕ) (fs : List File) → length (placed unique id fs) ≡ length fs
as_many unique id fs = length-map fs (one_placed unique id)

pub as_long : (unique : Bool) (id : List ℕ) (fs : List File) → bytes_of (placed unique id fs) ≡ bytes_of fs
as_long unique id [] = refl
as_long unique id (f ∷ fs) = ap (λ n. length f.1 + n) (as_long unique id fs)
