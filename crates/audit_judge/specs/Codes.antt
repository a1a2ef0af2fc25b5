-- Codes of what a judge knows, by which proofs tell its values apart.
use Rattle.std.specs.Prelude.{ℕ, List, Bool, true, false, refl, ◌≡◌}
use Rattle.std.specs.Coded.{Coded, code_by, coded_bool, coded_list, coded_ℕ, coded×}
use Rattle.soundness.specs.declared.keeps.Keeps.{Keeps}
use Rattle.soundness.specs.declared.keeps.Keeps.TheVariants.{Everything, Partitions, Nothing}
use Rattle.soundness.specs.declared.marker.Marker.{Marker}
use Rattle.soundness.specs.declared.marker.Marker.TheVariants.{Absent, Old, New}
use Rattle.audit_claims.specs.Claims.{Claimed, Tags}
use Rattle.audit_claims.specs.Etags.{TagMap, coded_tags}
use Rattle.judging.specs.Listed.{Listed}
use Rattle.audit_judge.specs.Bench.{Bench}
use Rattle.audit_judge.specs.Scene.{Scene}

-- The rule for opening files, as two bits.
abbrev pub keeps_bits : Keeps → Bool × Bool
keeps_bits Everything = (true, true)
keeps_bits Partitions = (true, false)
keeps_bits Nothing = (false, false)

abbrev pub bits_keeps : Bool → Bool → Keeps
bits_keeps true true = Everything
bits_keeps true false = Partitions
bits_keeps false b = Nothing

abbrev pub keeps_and_back : (k : Keeps) → bits_keeps (keeps_bits k).0 (keeps_bits k).1 ≡ k
keeps_and_back Everything = refl
keeps_and_back Partitions = refl
keeps_and_back Nothing = refl

abbrev pub coded_keeps : Coded Keeps
coded_keeps = code_by (Bool × Bool) (coded× coded_bool coded_bool) keeps_bits (λ p. bits_keeps p.0 p.1) keeps_and_back

-- A marker, as two bits.
abbrev pub marker_bits : Marker → Bool × Bool
marker_bits Absent = (true, true)
marker_bits Old = (true, false)
marker_bits New = (false, false)

abbrev pub bits_marker : Bool → Bool → Marker
bits_marker true true = Absent
bits_marker true false = Old
bits_marker false b = New

abbrev pub marker_and_back : (k : Marker) → bits_marker (marker_bits k).0 (marker_bits k).1 ≡ k
marker_and_back Absent = refl
marker_and_back Old = refl
marker_and_back New = refl

abbrev pub coded_marker : Coded Marker
coded_marker = code_by (Bool × Bool) (coded× coded_bool coded_bool) marker_bits (λ p. bits_marker p.0 p.1) marker_and_back

-- The code of attempts and their files by task.
abbrev pub coded_listed : Coded (Listed Tags)
coded_listed = coded_list (coded× coded_ℕ (coded_list (coded× coded_ℕ
    (coded_list (coded× (coded_list coded_ℕ) (coded_list (coded_list coded_ℕ)))))))

-- The code of a claim.
abbrev pub coded_claimed : Coded Claimed
coded_claimed = code_by (Listed Tags × ℕ) (coded× coded_listed coded_ℕ) (λ c. (c.listed, c.current))
    (λ p. record { listed = p.0; current = p.1 }) (λ _. refl)

-- The code of a scene.
abbrev pub coded_scene : Coded Scene
coded_scene = code_by ((Keeps × ℕ) × ((Claimed × Bool) × (TagMap × TagMap)))
    (coded× (coded× coded_keeps coded_ℕ) (coded× (coded× coded_claimed coded_bool) (coded× coded_tags coded_tags)))
    (λ s. ((s.keeps, s.tasks), ((s.claimed, s.started), (s.opening, s.shown))))
    (λ p. record {
      keeps = p.0.0;
      tasks = p.0.1;
      claimed = p.1.0.0;
      opening = p.1.1.0;
      shown = p.1.1.1;
      started = p.1.0.1;
    }) (λ _. refl)

-- The code of what a judge knows.
abbrev pub coded_bench : Coded Bench
coded_bench = code_by (Scene × ((Bool × Marker) × (Bool × List (List Bool))))
    (coded× coded_scene (coded× (coded× coded_bool coded_marker) (coded× coded_bool (coded_list (coded_list coded_bool)))))
    (λ b. (
      record {
        keeps = b.keeps;
        tasks = b.tasks;
        claimed = b.claimed;
        opening = b.opening;
        shown = b.shown;
        started = b.started;
      },
      ((b.begun, b.marker), (b.needed, b.candidates)),
    ))
    (λ p. record {
      keeps = p.0.keeps;
      tasks = p.0.tasks;
      claimed = p.0.claimed;
      opening = p.0.opening;
      shown = p.0.shown;
      begun = p.1.0.0;
      marker = p.1.0.1;
      started = p.0.started;
      needed = p.1.1.0;
      candidates = p.1.1.1;
    }) (λ _. refl)
