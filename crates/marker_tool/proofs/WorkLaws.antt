-- The audit, the cleaning and the filling are such works.
use Rattle.text_and_lists.proofs.Members.{in_front}
use Rattle.text_and_lists.specs.Members.{IsIn}
use Rattle.bucket_ops.proofs.Batches.{batch_deletes}
use Rattle.bucket_ops.specs.Walking.{all_below}
use Rattle.fs_ops.specs.Places.{bucket_asks, prefix_of}
use Rattle.fs_ops.specs.code.Steps.{IsStill, OnlyLooks}
use Rattle.fs_tree.specs.MarkerTool.{AreAll, Audits, Cleans, Fills, IsCleaning, IsFilling, IsMissing, IsSurplus, SameTree}
use Rattle.fs_tree.specs.Tree.{IsDirectory}
use Rattle.fs_tree.specs.declared.answers.FsRefusal.{FsRefusal}
use Rattle.fs_tree.specs.declared.markers.MarkerEntry.{MarkerEntry}
use Rattle.marker_tool.proofs.Listing.{is_listing}
use Rattle.marker_tool.proofs.MarkerLaws.{all_surplus, has_markers}
use Rattle.marker_tool.proofs.MissingLaws.{all_missing}
use Rattle.marker_tool.proofs.SameTree.{cleaning_of, cleans, filling_of, fills, is_cleaning, is_filling, with_append, without_append}
use Rattle.marker_tool.specs.Markers.{markers_in, missing_in, surplus_in}
use Rattle.marker_tool.specs.Works.{CleanSends, FillSends, IsBatch, drops, puts, with_markers}
use Rattle.marker_tool.specs.code.Work.{IsWork}
use Rattle.s3_types.specs.Answer.{without}
use Rattle.s3_types.specs.Store.{Objects}
use Rattle.std.proofs.Common.{arith, inl, inr, refl, subst, sym}
use Rattle.std.proofs.lemmas.List.{length-take, take-append-drop}
use Rattle.std.specs.Prelude.{Err, List, Ok, Result, drop, length, take, ℕ, [], ◌∷◌, ◌≡◌}

same_tree : (z : Objects) → SameTree z z
same_tree z = record { files = λ k f. refl; kept = λ q h. h; only = λ q h. h }

-- ---- the audit

audit_end : (p : List ℕ) (z : Objects) (a : Result (List MarkerEntry) FsRefusal) (m : Objects) → Audits p z a m → m ≡ z
audit_end p z (Ok ms) m h = h.2
audit_end p z (Err r) m h = h.1

pub audit_laws : IsWork (λ q es. []) (λ q es. markers_in es) 1 (λ ks. bucket_asks) (λ z ks. z) Audits IsStill OnlyLooks
audit_laws = record {
  some = omega arith;
  nothing = λ z. refl;
  more = λ z ks qs. refl;
  request = λ m k ks. refl;
  still = λ p z. refl;
  looks = λ p z a h. h;
  refused = λ p z r h. (h, refl);
  during = λ p z ks d h. refl;
  sent = λ p z k ks d h. refl;
  given = λ p z d. (d, has_markers p z (all_below (prefix_of p) z) (is_listing (prefix_of p) [] z), refl);
  at_end = audit_end;
}

-- ---- the cleaning

surplus_all : (p : List ℕ) (z : Objects) → AreAll (IsSurplus p z) (surplus_in (all_below (prefix_of p) z))
surplus_all p z = all_surplus p z (all_below (prefix_of p) z) (is_listing (prefix_of p) [] z)

still_clean : (p : List ℕ) (z : Objects) → IsCleaning p z z
still_clean p z = record { tree = same_tree z; kept = λ k. inl refl }

clean_end : (p : List ℕ) (z : Objects) (a : Result ℕ FsRefusal) (m : Objects) → Cleans p z a m → IsCleaning p z m
clean_end p z (Ok n) m h = cleaning_of p z m h.1.surplus h.0 h.1.tree h.1.all.each h.1.gone h.1.others
clean_end p z (Err r) m h = subst (IsCleaning p z) (sym h.1) (still_clean p z)

taken : (n : ℕ) (ks : List (List ℕ)) (k : List ℕ) → IsIn k (take n ks) → IsIn k ks
taken n ks k i = subst (IsIn k) (take-append-drop n ks) (in_front k (take n ks) (drop n ks) i)

batch_of : (p : List ℕ) (z : Objects) (k : List ℕ) (ks : List (List ℕ)) → IsDirectory z p
    → ((j : List ℕ) → IsIn j (k ∷ ks) → IsIn j (surplus_in (all_below (prefix_of p) z)))
    → IsBatch p z (take 1000 (k ∷ ks))
batch_of p z k ks d h = record {
  directory = d;
  few = omega (arith, length-take 1000 (k ∷ ks));
  each = λ j i. (surplus_all p z).each j (h j (taken 1000 (k ∷ ks) j i));
}

pub clean_laws : IsWork (λ q es. surplus_in es) (λ q es. length (surplus_in es)) 1000 drops without Cleans IsCleaning CleanSends
clean_laws = record {
  some = omega arith;
  nothing = λ z. refl;
  more = without_append;
  request = λ m k ks. batch_deletes (k ∷ ks) m;
  still = still_clean;
  looks = λ p z a h. inl h;
  refused = λ p z r h. (h, refl);
  during = λ p z ks d h. is_cleaning p z ks (λ k i. (surplus_all p z).each k (h k i)) d;
  sent = λ p z k ks d h. inr (k, take 999 ks, refl, batch_of p z k ks d h);
  given = λ p z d. (d, cleans p z (surplus_in (all_below (prefix_of p) z)) (surplus_all p z));
  at_end = clean_end;
}

-- ---- the filling

missing_all : (p : List ℕ) (z : Objects) → AreAll (IsMissing p z) (missing_in (prefix_of p) (all_below (prefix_of p) z))
missing_all p z = all_missing p z (all_below (prefix_of p) z) (is_listing (prefix_of p) [] z)

still_fill : (p : List ℕ) (z : Objects) → IsFilling p z z
still_fill p z = record { tree = same_tree z; kept = λ k. inl refl }

fill_end : (p : List ℕ) (z : Objects) (a : Result ℕ FsRefusal) (m : Objects) → Fills p z a m → IsFilling p z m
fill_end p z (Ok n) m h = filling_of p z m h.1.missing h.0 h.1.tree h.1.all.each h.1.put h.1.others
fill_end p z (Err r) m h = subst (IsFilling p z) (sym h.1) (still_fill p z)

pub fill_laws : IsWork missing_in (λ q es. length (missing_in q es)) 1 puts with_markers Fills IsFilling FillSends
fill_laws = record {
  some = omega arith;
  nothing = λ z. refl;
  more = with_append;
  request = λ m k ks. refl;
  still = still_fill;
  looks = λ p z a h. inl h;
  refused = λ p z r h. (h, refl);
  during = λ p z ks d h. is_filling p z ks (λ k i. (missing_all p z).each k (h k i)) d;
  sent = λ p z k ks d h. inr (k, refl, d, (missing_all p z).each k (h k (inl refl)));
  given = λ p z d. (d, fills p z (missing_in (prefix_of p) (all_below (prefix_of p) z)) (missing_all p z));
  at_end = fill_end;
}
