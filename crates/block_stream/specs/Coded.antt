-- Codings by which proofs tell streams apart, each with the law that it can be read back.
use Rattle.block_stream.specs.Stream.{Stream}
use Rattle.block_stream.specs.declared.mode.StreamEnd.{StreamEnd}
use Rattle.block_stream.specs.declared.mode.StreamEnd.TheVariants.{Done, Gone, NoMemory, StoreFault}
use Rattle.block_stream.specs.declared.mode.StreamMode.{StreamMode}
use Rattle.block_stream.specs.declared.mode.StreamMode.TheVariants.{Delayed, Direct}
use Rattle.s3_types.specs.Coded.{coded_text}
use Rattle.s3_types.specs.Tags.{Spelled}
use Rattle.std.specs.Coded.{Coded, code_by, coded_bool, coded_list, coded_option, coded_ℕ, coded×}
use Rattle.std.specs.Prelude.{Bool, List, Option, false, refl, true, ℕ, ◌≡◌}

-- A stream's mode as a bit.
abbrev pub mode_bit : StreamMode → Bool
mode_bit Direct = false
mode_bit Delayed = true

-- The mode for a bit.
abbrev pub bit_mode : Bool → StreamMode
bit_mode false = Direct
bit_mode true = Delayed

-- The bit of a mode gives the mode back.
abbrev pub mode_and_back : (x : StreamMode) → bit_mode (mode_bit x) ≡ x
mode_and_back Direct = refl
mode_and_back Delayed = refl

-- A stream's end as two bits.
abbrev pub end_bits : StreamEnd → Bool × Bool
end_bits Done = (false, false)
end_bits Gone = (false, true)
end_bits StoreFault = (true, false)
end_bits NoMemory = (true, true)

-- The end for two bits.
abbrev pub bits_end_by : Bool → Bool → StreamEnd
bits_end_by false false = Done
bits_end_by false true = Gone
bits_end_by true false = StoreFault
bits_end_by true true = NoMemory

-- The bits of an end give the end back.
abbrev pub end_and_back : (e : StreamEnd) → bits_end_by (end_bits e).0 (end_bits e).1 ≡ e
end_and_back Done = refl
end_and_back _ = refl

-- The coding of a stream's mode.
abbrev pub coded_mode : Coded StreamMode
coded_mode = code_by Bool coded_bool mode_bit bit_mode mode_and_back

-- The coding of a stream's end.
abbrev pub coded_end : Coded StreamEnd
coded_end = code_by (Bool × Bool) (coded× coded_bool coded_bool) end_bits (λ p. bits_end_by p.0 p.1) end_and_back

-- The coding of a part's tag.
abbrev pub coded_spelled : Coded Spelled
coded_spelled = code_by (List ℕ × ℕ) (coded× coded_text coded_ℕ) (λ t. (t.digits, t.parts)) (λ p. record { digits = p.0; parts = p.1 })
    (λ _. refl)

-- The coding of a stream.
abbrev pub coded_stream : Coded Stream
coded_stream =
    code_by (StreamMode × (List ℕ × (List ℕ × (ℕ × (List ℕ × (Option ℕ × (List Spelled × (ℕ × (Bool × Option StreamEnd)))))))))
    (coded× coded_mode (coded× coded_text (coded× coded_text (coded× coded_ℕ
    (coded× coded_text (coded× (coded_option coded_ℕ) (coded× (coded_list coded_spelled)
    (coded× coded_ℕ (coded× coded_bool (coded_option coded_end))))))))))
    (λ m. (m.mode, (m.bucket, (m.key, (m.block, (m.pending, (m.upload, (m.tags, (m.count, (m.closed, m.end))))))))))
    (λ t. record {
      mode = t.0;
      bucket = t.1.0;
      key = t.1.1.0;
      block = t.1.1.1.0;
      pending = t.1.1.1.1.0;
      upload = t.1.1.1.1.1.0;
      tags =
          t.1.1.1.1.1.1.0;
      count = t.1.1.1.1.1.1.1.0;
      closed = t.1.1.1.1.1.1.1.1.0;
      end = t.1.1.1.1.1.1.1.1.1;
    })
    (λ _. refl)
