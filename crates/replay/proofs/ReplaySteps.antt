-- A text of a sample read part by part, and texts one after another. Assumes nothing.
use Rattle.std.proofs.Common.{◌≡◌, ℕ, ◌+◌, ◌≤◌, ◌<◌, ◌⊎◌, Bool, true, false, List, [], ◌∷◌, ◌++◌, Ok, Err, None, Some, OnOk, inl, inr, length, take, drop, refl, sym, ap, ◌∙◌, subst, arith, append-nil, append_assoc, length-append, length-drop, length-take-le, take_all, take_at, drop_of_length-le}
use Rattle.std.proofs.KnownBytes.{Consumes-trans}
use Rattle.std.specs.Io.KnownBytes.{Consumes, Appends, IsAtEnd}
use Rattle.std.proofs.lemmas.Result.{on_ok_weaker}
use Rattle.std.proofs.lemmas.Bool.{cases_lt}
use Rattle.std.specs.declared.option.Option.{Option as Known}
use Rattle.std.specs.declared.result.Result.{Result}
use Rattle.std.specs.declared.io.Error.{Error}
use borrow.Rule.Slice.PartMut.{put_mid, post_of}
use Rattle.input.specs.Reading.{Filled}
use Rattle.replay.specs.declared.Stop.{Stop}
use Rattle.replay.specs.declared.Stop.TheVariants.{BrokenOff, Failed}
use Rattle.replay.specs.Sample.{Judged, JudgedEach, text_length, report_length, line}
use Rattle.replay.specs.declared.Tally.{Tally}
use Rattle.replay.specs.Replay.{Tells, PartRead, HeaderRead, NextTold, Replayed, IsEnding, SampleTold}
use Rattle.replay.proofs.TallySteps.{line_told}

-- where a second half is there, the first was read whole: the end before it leaves none
behind_half : (before mid after : Known (List ℕ)) (front back : List ℕ) (n : ℕ) → Consumes before mid (take n front) → (n < length front → IsAtEnd mid) → Consumes mid after back
    → 0 < length back → (n < length front) ⊎ (length front ≤ n) → Consumes before after (front ++ back)
behind_half before mid after front back n first end second some (inr whole) =
    Consumes-trans before mid after front back (subst (Consumes before mid) (take_all n front whole) first) second
behind_half None mid after front back n first end second some (inl few) = tt
behind_half (Some x) None after front back n first end second some (inl few) = absurd first
behind_half (Some x) (Some y) None front back n first end second some (inl few) = absurd second
behind_half (Some x) (Some y) (Some z) front back n first end second some (inl few) =
    absurd (omega (arith, ap length (end few), ap length second, length-append back z, some))

-- a header that was read whole, half by half
pub header_whole : (before mid after : Known (List ℕ)) (old front behind held back : List ℕ) (n m : ℕ) → Filled before mid old front n → (n < length front → IsAtEnd mid)
    → Filled mid after held back m → length front ≡ 9 → length behind ≡ 9 → length back ≡ 9 → 9 ≤ m → Consumes before after (put_mid 9 9 (front ++ behind) back)
header_whole before mid after old front behind held back n m first end second front_size behind_size back_size enough =
    let whole : take m back ≡ back = take_all m back (omega arith) in
    let short : length (drop 9 (front ++ behind)) ≤ 9 = omega (arith, length-drop 9 (front ++ behind), length-append front behind) in
    let none : post_of 9 9 (front ++ behind) ≡ [] = drop_of_length-le (drop 9 (front ++ behind)) short in
    let joined : put_mid 9 9 (front ++ behind) back ≡ front ++ back = rw (take_at front behind 9 front_size, none, append-nil back) refl in
    subst (Consumes before after) (sym joined) (behind_half before mid after front back n first.bytes end (subst (Consumes mid after) whole second.bytes) (omega arith) (cases_lt n (length front)))

-- or that breaks off
pub header_cut : (before mid after : Known (List ℕ)) (old front held back : List ℕ) (n m : ℕ) → Filled before mid old front n → Filled mid after held back m
    → length front ≡ 9 → 0 < n → m < 9 → IsAtEnd after
    → (bytes : List ℕ) × Consumes before after bytes × (0 < length bytes) × (length bytes < 18) × IsAtEnd after
header_cut before mid after old front held back n m first second front_size some few end =
    let size = length-append (take n front) (take m back) in
    let front_part = length-take-le n front first.fits in
    let back_part = length-take-le m back second.fits in (
      take n front ++ take m back,
      Consumes-trans before mid after (take n front) (take m back) first.bytes second.bytes,
      omega (arith, size, front_part, back_part, some),
      omega (arith, size, front_part, back_part, first.fits, front_size, few),
      end,
    )

-- where a header was found, it was read
pub header_found : {S : Type 0} (gives : S → Result ℕ Error → S → Type 0) (before after : Known (List ℕ)) (header : List ℕ) (found : Bool)
    → found ≡ true → HeaderRead gives before after header (Ok found) → Consumes before after header
header_found gives before after header true e h = h
header_found gives before after header false e h = cc

module _ {S : Type 0} (gives : S → Result ℕ Error → S → Type 0) (before mid : Known (List ℕ)) (header : List ℕ) (read : Consumes before mid header) (size : length header ≡ 18) where
  -- a text that is not there stops the sample
  pub text_missing : (after : Known (List ℕ)) (space : List ℕ) (n : ℕ) (stop : Stop) → length space ≡ 65600 → n ≡ text_length header
      → PartRead gives mid after space n (Err stop) → NextTold gives before after (Err stop)
  text_missing after space n BrokenOff room is (inl part) =
      (header ++ [], Consumes-trans before mid after header [] read part.1, inr (header, [], refl, size, inl (omega (arith, is, part.0))))
  text_missing after space n BrokenOff room is (inr part) =
      let (bytes, taken, few, end) = part in
      (header ++ bytes, Consumes-trans before mid after header bytes read taken, inl (end, inr (header, bytes, refl, size, omega (arith, is, few))))
  text_missing after space n (Failed e) room is part = part

  module _ (next : Known (List ℕ)) (text : List ℕ) (text_read : Consumes mid next text) (text_size : length text ≡ text_length header) where
    both_read : Consumes before next (header ++ text)
    both_read = Consumes-trans before mid next header text read text_read

    -- nor is a report
    pub report_missing : (after : Known (List ℕ)) (space : List ℕ) (n : ℕ) (stop : Stop) → length space ≡ 262144 → n ≡ report_length header
        → PartRead gives next after space n (Err stop) → NextTold gives before after (Err stop)
    report_missing after space n BrokenOff room is (inl part) =
        (header ++ (text ++ []), subst (Consumes before after) (append_assoc header text []) (Consumes-trans before next after (header ++ text) [] both_read part.1), inr (header, text ++ [], refl, size, inr (omega (arith, is, part.0))))
    report_missing after space n BrokenOff room is (inr part) =
        let (bytes, taken, few, end) = part in (
          header ++ (text ++ bytes),
          subst (Consumes before after) (append_assoc header text bytes) (Consumes-trans before next after (header ++ text) bytes both_read taken),
          inl (end, inr (header, text ++ bytes, refl, size, omega (arith, is, few, text_size, length-append text bytes))),
        )
    report_missing after space n (Failed e) room is part = part

    -- a text with its report
    pub all_read : (after : Known (List ℕ)) (wanted : List ℕ) → Consumes next after wanted → Consumes before after (header ++ (text ++ wanted))
    all_read after wanted taken = subst (Consumes before after) (append_assoc header text wanted) (Consumes-trans before next after (header ++ text) wanted both_read taken)

-- one text more behind others
pub judged_more : (bytes : List ℕ) (sames : List Bool) (one : List ℕ) (same : Bool) → JudgedEach bytes sames → Judged one same → JudgedEach (bytes ++ one) (sames ++ same ∷ [])
judged_more bytes [] one same e j = (one, [], ap (λ l. l ++ one) e ∙ sym (append-nil one), j, refl)
judged_more bytes (b ∷ sames) one same (first, more, e, judged, each) j =
    (first, more ++ one, ap (λ l. l ++ one) e ∙ append_assoc first more one, judged, judged_more more sames one same each j)

-- what is told of one text, behind what is told of others
pub told_more : {S : Type 0} (gives : S → Result ℕ Error → S → Type 0) (before mid after : Known (List ℕ)) (t u : Tally) (counter : ℕ) (same : Bool)
    → (bytes : List ℕ) (sames : List Bool) → JudgedEach bytes sames → Tells t sames → length sames ≡ counter → Consumes before mid bytes
    → NextTold gives mid after (Ok (Some same)) → ((sames : List Bool) → Tells t sames → Tells u (sames ++ same ∷ []))
    → (bytes : List ℕ) × (sames : List Bool) × JudgedEach bytes sames × Tells u sames × (length sames ≡ counter + 1) × Consumes before after bytes
told_more gives before mid after t u counter same bytes sames each tells count taken (one, more, judged) add =
    (bytes ++ one, sames ++ same ∷ [], judged_more bytes sames one same each judged, add sames tells, omega (arith, count, length-append sames (same ∷ [])), Consumes-trans before mid after bytes one taken more)

-- what was replayed is told by the line
pub sample_told : {S E : Type 0} (gives : S → Result ℕ Error → S → Type 0) (before after held now : Known (List ℕ)) (t : Tally) (r : Result (Unit {0}) Stop) (ending : List ℕ) (printed : Result (Unit {0}) E)
    → Replayed gives before after t r → IsEnding gives r ending → OnOk printed (Appends held now (line t.count t.differ t.first ending)) → OnOk printed (SampleTold gives before after held now)
sample_told gives before after held now t r ending printed (bytes, sames, each, tells, all) is told =
    on_ok_weaker printed (λ p. (bytes, sames, r, ending, each, all, is, subst (Appends held now) (line_told t sames ending tells) p)) told
