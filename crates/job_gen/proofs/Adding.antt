-- Files that are added to an attempt one by one.
use Rattle.job_model.specs.Attempts.{Declared, Who, last_files, with_file}
use Rattle.job_model.specs.Files.{File, has_path}
use Rattle.job_model.specs.Legal.{AreFiles}
use Rattle.std.proofs.Common.{List, ap, append_assoc, false, refl, subst, sym, ℕ, [], ◌++◌, ◌∙◌, ◌∷◌, ◌≡◌}
use Rattle.std.proofs.lemmas.List.{append-nil}

last_of : (before : List Declared) (a : Declared) → last_files (before ++ a ∷ []) ≡ a.1
last_of (b ∷ c ∷ before) a = last_of (c ∷ before) a
last_of _ a = refl

added_to : (before : List Declared) (name : Who) (fs : List File) (path bytes : List ℕ)
    → with_file (before ++ (name, fs) ∷ []) path bytes ≡ before ++ (name, fs ++ (path, bytes) ∷ []) ∷ []
added_to (b ∷ c ∷ before) name fs path bytes = ap (λ (l : List Declared). b ∷ l) (added_to (c ∷ before) name fs path bytes)
added_to _ name fs path bytes = refl

-- Holds if the files so far are added, and the rest are left.
pub record IsAdding (old : List Declared) (name : Who) (files : List File) (now : List Declared) (rest : List File) : Type 0 where
  pub done : List File
  pub all : files ≡ done ++ rest
  pub so_far : now ≡ old ++ (name, done) ∷ []

-- The path of a file after others.
first_here : (before done rest : List File) (f : File) → AreFiles before (done ++ f ∷ rest) → has_path (before ++ done) f.0 ≡ false
first_here before [] rest f h = subst (λ (l : List File). has_path l f.0 ≡ false) (sym (append-nil before)) h.1
first_here before (d ∷ done) rest f h = subst (λ (l : List File). has_path l f.0 ≡ false) (append_assoc before (d ∷ []) done)
    (first_here (before ++ d ∷ []) done rest f h.2)

pub next_free : {old now : List Declared} {name : Who} {files all rest : List File} {f : File} → AreFiles [] files
    → IsAdding old name files now all → all ≡ f ∷ rest → has_path (last_files now) f.0 ≡ false
next_free {old = old} {name = name} {rest = rest} {f = f} h p e =
    let last : last_files (old ++ (name, p.done) ∷ []) ≡ p.done = last_of old (name, p.done) in
    ap (λ (l : List Declared). has_path (last_files l) f.0) p.so_far ∙ ap (λ (l : List File). has_path l f.0) last ∙ first_here [] p.done
    rest f (subst (AreFiles []) (p.all ∙ ap (λ (l : List File). p.done ++ l) e) h)

pub next_added : {old now more : List Declared} {name : Who} {files all rest : List File} {f : File} (path bytes : List ℕ)
    → IsAdding old name files now all → all ≡ f ∷ rest → path ≡ f.0 → bytes ≡ f.1 → more ≡ with_file now path bytes
    → IsAdding old name files more rest
next_added {old = old} {name = name} {rest = rest} {f = f} path bytes p e same_path same_bytes made = record {
  done = p.done ++ f ∷ [];
  all = p.all ∙ ap (λ (l : List File). p.done ++ l) e ∙ sym (append_assoc p.done (f ∷ []) rest);
  so_far =
      made ∙ (λ i. with_file (p.so_far i) (same_path i) (same_bytes i)) ∙ added_to old name p.done f.0 f.1;
}

pub all_added : {old now : List Declared} {name : Who} {files rest : List File} → IsAdding old name files now rest → rest ≡ []
    → now ≡ old ++ (name, files) ∷ []
all_added {old = old} {name = name} p e = p.so_far ∙ ap (λ (l : List File). old ++ (name, l) ∷ [])
    (sym (p.all ∙ ap (λ (l : List File). p.done ++ l) e ∙ append-nil p.done))
