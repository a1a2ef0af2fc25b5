-- The files of a made job's task.
use Rattle.text_and_lists.proofs.Naturals.{below_so}
use Rattle.job_gen.proofs.PartPaths.{path_free, path_given}
use Rattle.job_gen.proofs.Ranges.{map_more}
use Rattle.job_gen.specs.Made.{below, content, number, part_file, part_files, part_path}
use Rattle.job_model.specs.Files.{File}
use Rattle.job_model.specs.Legal.{AreFiles, IsFile, are_bytes, bytes_of}
use Rattle.std.proofs.Common.{List, ap, arith, length, map, refl, replicate, suc, sym, true, zero, ℕ, [], ◌%◌, ◌*◌, ◌++◌, ◌+◌, ◌<◌, ◌∙◌}
use Rattle.std.proofs.Common.{◌∷◌, ◌≡◌, ◌≤◌}
use Rattle.std.proofs.lemmas.List.{length-replicate, map-append}
use Rattle.std.proofs.lemmas.List.FromFn.{length-map-range_with_len}
use Rattle.std.specs.List.{range_with_len}

same_bytes : (n b : ℕ) → b < 256 → are_bytes (replicate n b) ≡ true
same_bytes zero b h = refl
same_bytes (suc n) b h = rw (below_so b 256 h) (same_bytes n b h)

file_fits : (seed files t j : ℕ) → t < 1000 → j < 100 → IsFile (part_file seed files t j)
file_fits seed files t j h g = grind (arith, path_given, same_bytes)

-- The files from one on, after those before it.
fits_from : (seed files t a n : ℕ) (before : List File) → t < 1000 → a + n ≤ 100 → map (λ f. f.0) before ≡ map (part_path t) (below a)
    → AreFiles before (map (part_file seed files t) (range_with_len a n))
fits_from seed files t a zero before small few e = tt
fits_from seed files t a (suc n) before small few e = (
  file_fits seed files t a small (omega arith),
  path_free t a 0 a before e (omega arith) (omega arith),
  fits_from seed files t (a + 1) n (before ++ part_file seed files t a ∷ []) small (omega arith)
      (map-append (λ f. f.0) before (part_file seed files t a ∷ []) ∙ ap (λ l. l ++ part_path t a ∷ []) e ∙ sym (map_more (part_path t) a)),
)

-- A script may give these files to a task.
pub files_fit : (seed files t : ℕ) → t < 1000 → files ≤ 100 → AreFiles [] (part_files seed files t)
unfolding part_files
files_fit seed files t small few = fits_from seed files t 0 files [] small (omega arith) refl

pub files_count : (seed files t : ℕ) → length (part_files seed files t) ≡ files
unfolding part_files
files_count seed files t = length-map-range_with_len (part_file seed files t) 0 files

bytes_from : (seed files t a n : ℕ) → bytes_of (map (part_file seed files t) (range_with_len a n)) ≤ n * 4095
bytes_from seed files t a zero = omega arith
bytes_from seed files t a (suc n) =
    let rest = bytes_from seed files t (a + 1) n in
    let long = length-replicate (number seed (2 * (t * files + a) + 1) % 4096) (97 + number seed (2 * (t * files + a) + 2) % 26) in
    let short : length (part_file seed files t a).1 ≤ 4095 = omega (arith, long) in
    omega (arith, short, rest)

pub files_bytes : (seed files t : ℕ) → bytes_of (part_files seed files t) ≤ files * 4095
unfolding part_files
files_bytes seed files t = bytes_from seed files t 0 files

-- ---- files that are made one by one

pub paths_on : (t j : ℕ) (made next : List File) (path bytes : List ℕ) → map (λ f. f.0) made ≡ map (part_path t) (below j)
    → path ≡ part_path t j → next ≡ made ++ (path, bytes) ∷ [] → map (λ f. f.0) next ≡ map (part_path t) (below (j + 1))
paths_on t j made next path bytes e is next_is =
    ap (λ (l : List File). map (λ f. f.0) l) next_is ∙ map-append (λ (f : File). f.0) made ((path, bytes) ∷ []) ∙ (λ i. e i ++ is i ∷ []) ∙
    sym (map_more (part_path t) j)

pub files_on : (seed files t j : ℕ) (made next : List File) (path bytes : List ℕ) → made ≡ map (part_file seed files t) (below j)
    → path ≡ part_path t j → bytes ≡ content seed (2 * (t * files + j)) → next ≡ made ++ (path, bytes) ∷ []
    → next ≡ map (part_file seed files t) (below (j + 1))
files_on seed files t j made next path bytes e path_is bytes_are next_is =
    next_is ∙ (λ i. e i ++ (path_is i, bytes_are i) ∷ []) ∙ sym (map_more (part_file seed files t) j)
