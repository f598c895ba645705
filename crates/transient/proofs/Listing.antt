-- What is written to list 9, one entry after the other. Assumes nothing.
use mathlib.Core.List.{List, [], ◌∷◌, ◌++◌, map, map-append, append-nil}
use mathlib.Core.Path.{◌≡◌, refl, sym, ap, ◌∙◌}
use Prim.Native.Nat.{ℕ, ◌+◌, ◌<◌, ◌≤◌}
use native.Mathlib.Omega.{arith}
use lib.ListN.{length, get_or, set, take, drop, length-map, length-append, get_or-append}
use lib.Seq.{length-take-le}
use Rattle.std.proofs.lemmas.List.{set-set, get_or-append-add}
use Rattle.rules.specs.Lists.{written_from}
use Rattle.rules.specs.Verdicts.{Finding, FindingLists, FindingsListed, finding_component, finding_polarity, finding_unit, finding_start_tick, finding_end_tick, finding_width, finding_steady, finding_baseline, finding_start, finding_end, finding_verdict, finding_rationale}
use Rattle.rules.proofs.Written.{from-none, from_more, from-length}
use Rattle.transient.specs.Judged.{FindingRoom, PulseWritten, JudgementWritten, PulsesListed, PulsesHeld, JudgementsListed}

-- an entry is written after others, or in place of one that stands after them
over : (old xs extra : List ℕ) (start x : ℕ) → length extra ≤ 1 → start + length xs < length old → set (written_from start old (xs ++ extra)) (start + length xs) x ≡ written_from start old (xs ++ (x ∷ []))
over old xs [] start x e h = rw append-nil (from_more old xs start x h)
over old xs (y ∷ []) start x e h =
    ap (λ l. set l (start + length xs) x) (sym (from_more old xs start y h)) ∙ set-set (written_from start old xs) (start + length xs) y x ∙ from_more old xs start x h
over old xs (y ∷ z ∷ extra) start x e h = absurd (omega arith)

module _ (start : ℕ) (fs extra : List Finding) (most : length extra ≤ 1) where
  -- so it is in each number list
  column : (g : Finding → ℕ) (f : Finding) {at : ℕ} (o : List ℕ) {m m' : List ℕ} → at ≡ start + length fs → start + length fs < length o → m ≡ written_from start o (map g (fs ++ extra)) → m' ≡ set m at (g f)
      → m' ≡ written_from start o (map g (fs ++ (f ∷ [])))
  column g f {at = at} o {m = m} a h e q =
      let p : at ≡ start + length (map g fs) = omega (arith, a, length-map fs g) in
      q ∙ ap (λ k. set m k (g f)) p ∙ ap (λ l. set l (start + length (map g fs)) (g f)) (e ∙ ap (written_from start o) (map-append g fs extra))
      ∙ over o (map g fs) (map g extra) start (g f) (omega (arith, length-map extra g)) (omega (arith, length-map fs g)) ∙ ap (written_from start o) (sym (map-append g fs (f ∷ [])))

  left : (g : Finding → ℕ) (o : List ℕ) {m : List ℕ} {n : ℕ} → length fs < n → start + n ≤ length o → m ≡ written_from start o (map g (fs ++ extra)) → length m ≡ length o
  left g o h r e = ap length e ∙ from-length o (map g (fs ++ extra)) start (omega (arith, length-map (fs ++ extra) g, length-append fs extra))

  module _ {n : ℕ} {old mid : FindingLists} (room : FindingRoom start n old) (fits : length fs < n) {at : ℕ} (here : at ≡ start + length fs) where
    module _ (listed : PulsesListed (written_from start) (fs ++ extra) old mid) where
      -- there is room for the next
      pub pulse-room : FindingRoom at 1 mid
      pulse-room = record {
        components_room = omega (arith, room.components_room, left finding_component old.components fits room.components_room listed.components_listed);
        polarities_room = omega (arith, room.polarities_room, left finding_polarity old.polarities fits room.polarities_room listed.polarities_listed);
        units_room = omega (arith, room.units_room, left finding_unit old.units fits room.units_room listed.units_listed);
        start_ticks_room = omega (arith, room.start_ticks_room, left finding_start_tick old.start_ticks fits room.start_ticks_room listed.start_ticks_listed);
        end_ticks_room = omega (arith, room.end_ticks_room, left finding_end_tick old.end_ticks fits room.end_ticks_room listed.end_ticks_listed);
        widths_room = omega (arith, room.widths_room, left finding_width old.widths fits room.widths_room listed.widths_listed);
        steady_room = omega (arith, room.steady_room, left finding_steady old.steady fits room.steady_room listed.steady_listed);
        baselines_room = omega (arith, room.baselines_room, left finding_baseline old.baselines fits room.baselines_room listed.baselines_listed);
        starts_room = omega (arith, room.starts_room, left finding_start old.starts fits room.starts_room listed.starts_listed);
        ends_room = omega (arith, room.ends_room, left finding_end old.ends fits room.ends_room listed.ends_listed);
        verdicts_room = omega (arith, room.verdicts_room, ap length listed.verdicts_kept);
        rationales_room = omega (arith, room.rationales_room, ap length listed.rationales_kept);
      }

      -- and it is written after those that stay
      pub next-listed : (f : Finding) {new : FindingLists} → PulseWritten at f.pulse mid new → PulsesListed (written_from start) (fs ++ (f ∷ [])) old new
      next-listed f w = record {
        components_listed = column finding_component f old.components here (omega (arith, room.components_room)) listed.components_listed w.components_set;
        polarities_listed = column finding_polarity f old.polarities here (omega (arith, room.polarities_room)) listed.polarities_listed w.polarities_set;
        units_listed = column finding_unit f old.units here (omega (arith, room.units_room)) listed.units_listed w.units_set;
        start_ticks_listed = column finding_start_tick f old.start_ticks here (omega (arith, room.start_ticks_room)) listed.start_ticks_listed w.start_ticks_set;
        end_ticks_listed = column finding_end_tick f old.end_ticks here (omega (arith, room.end_ticks_room)) listed.end_ticks_listed w.end_ticks_set;
        widths_listed = column finding_width f old.widths here (omega (arith, room.widths_room)) listed.widths_listed w.widths_set;
        steady_listed = column finding_steady f old.steady here (omega (arith, room.steady_room)) listed.steady_listed w.steady_set;
        baselines_listed = column finding_baseline f old.baselines here (omega (arith, room.baselines_room)) listed.baselines_listed w.baselines_set;
        starts_listed = column finding_start f old.starts here (omega (arith, room.starts_room)) listed.starts_listed w.starts_set;
        ends_listed = column finding_end f old.ends here (omega (arith, room.ends_room)) listed.ends_listed w.ends_set;
        verdicts_kept = w.verdicts_kept ∙ listed.verdicts_kept;
        rationales_kept = w.rationales_kept ∙ listed.rationales_kept;
      }

    module _ (listed : JudgementsListed (written_from start) (fs ++ extra) old mid) where
      pub judgement-room : FindingRoom at 1 mid
      judgement-room = record {
        components_room = omega (arith, room.components_room, ap length listed.components_kept);
        polarities_room = omega (arith, room.polarities_room, ap length listed.polarities_kept);
        units_room = omega (arith, room.units_room, ap length listed.units_kept);
        start_ticks_room = omega (arith, room.start_ticks_room, ap length listed.start_ticks_kept);
        end_ticks_room = omega (arith, room.end_ticks_room, ap length listed.end_ticks_kept);
        widths_room = omega (arith, room.widths_room, ap length listed.widths_kept);
        steady_room = omega (arith, room.steady_room, ap length listed.steady_kept);
        baselines_room = omega (arith, room.baselines_room, ap length listed.baselines_kept);
        starts_room = omega (arith, room.starts_room, ap length listed.starts_kept);
        ends_room = omega (arith, room.ends_room, ap length listed.ends_kept);
        verdicts_room = omega (arith, room.verdicts_room, left finding_verdict old.verdicts fits room.verdicts_room listed.verdicts_listed);
        rationales_room = omega (arith, room.rationales_room, left finding_rationale old.rationales fits room.rationales_room listed.rationales_listed);
      }

      pub next-judged : (f : Finding) {v w : ℕ} {new : FindingLists} → v ≡ finding_verdict f → w ≡ finding_rationale f → JudgementWritten at v w mid new → JudgementsListed (written_from start) (fs ++ (f ∷ [])) old new
      next-judged f {new = new} a b w = record {
        verdicts_listed = column finding_verdict f old.verdicts here (omega (arith, room.verdicts_room)) listed.verdicts_listed (w.verdicts_set ∙ ap (set mid.verdicts at) a);
        rationales_listed = column finding_rationale f old.rationales here (omega (arith, room.rationales_room)) listed.rationales_listed (w.rationales_set ∙ ap (set mid.rationales at) b);
        components_kept = w.components_kept ∙ listed.components_kept;
        polarities_kept = w.polarities_kept ∙ listed.polarities_kept;
        units_kept = w.units_kept ∙ listed.units_kept;
        start_ticks_kept = w.start_ticks_kept ∙ listed.start_ticks_kept;
        end_ticks_kept = w.end_ticks_kept ∙ listed.end_ticks_kept;
        widths_kept = w.widths_kept ∙ listed.widths_kept;
        steady_kept = w.steady_kept ∙ listed.steady_kept;
        baselines_kept = w.baselines_kept ∙ listed.baselines_kept;
        starts_kept = w.starts_kept ∙ listed.starts_kept;
        ends_kept = w.ends_kept ∙ listed.ends_kept;
      }

-- nothing is written
pub none_listed : (start : ℕ) (o : FindingLists) → PulsesListed (written_from start) [] o o
none_listed start o = record {
  components_listed = sym (from-none o.components start);
  polarities_listed = sym (from-none o.polarities start);
  units_listed = sym (from-none o.units start);
  start_ticks_listed = sym (from-none o.start_ticks start);
  end_ticks_listed = sym (from-none o.end_ticks start);
  widths_listed = sym (from-none o.widths start);
  steady_listed = sym (from-none o.steady start);
  baselines_listed = sym (from-none o.baselines start);
  starts_listed = sym (from-none o.starts start);
  ends_listed = sym (from-none o.ends start);
  verdicts_kept = refl;
  rationales_kept = refl;
}

pub none_judged : (start : ℕ) (o : FindingLists) → JudgementsListed (written_from start) [] o o
none_judged start o = record {
  verdicts_listed = sym (from-none o.verdicts start);
  rationales_listed = sym (from-none o.rationales start);
  components_kept = refl;
  polarities_kept = refl;
  units_kept = refl;
  start_ticks_kept = refl;
  end_ticks_kept = refl;
  widths_kept = refl;
  steady_kept = refl;
  baselines_kept = refl;
  starts_kept = refl;
  ends_kept = refl;
}

-- what is written is there
there : (start : ℕ) (old new : List ℕ) (j : ℕ) → start ≤ length old → j < length new → get_or (written_from start old new) (start + j) 0 ≡ get_or new j 0
unfolding written_from
there start old new j h k =
    let e : start ≡ length (take start old) = sym (length-take-le start old h) in
    ap (λ i. get_or (take start old ++ (new ++ drop (start + length new) old)) (i + j) 0) e ∙ get_or-append-add (take start old) (new ++ drop (start + length new) old) j 0
    ∙ get_or-append new (drop (start + length new) old) 0 j k

module _ {start n : ℕ} (fs : List Finding) {old mid : FindingLists} (room : FindingRoom start n old) (fits : length fs ≤ n) (listed : PulsesListed (written_from start) fs old mid) where
  kept : (g : Finding → ℕ) (o : List ℕ) {m : List ℕ} → start + n ≤ length o → m ≡ written_from start o (map g fs) → length m ≡ length o
  kept g o r e = ap length e ∙ from-length o (map g fs) start (omega (arith, length-map fs g))

  -- there is room for what is judged of them
  pub room_kept : FindingRoom start (length fs) mid
  room_kept = record {
    components_room = omega (arith, room.components_room, kept finding_component old.components room.components_room listed.components_listed);
    polarities_room = omega (arith, room.polarities_room, kept finding_polarity old.polarities room.polarities_room listed.polarities_listed);
    units_room = omega (arith, room.units_room, kept finding_unit old.units room.units_room listed.units_listed);
    start_ticks_room = omega (arith, room.start_ticks_room, kept finding_start_tick old.start_ticks room.start_ticks_room listed.start_ticks_listed);
    end_ticks_room = omega (arith, room.end_ticks_room, kept finding_end_tick old.end_ticks room.end_ticks_room listed.end_ticks_listed);
    widths_room = omega (arith, room.widths_room, kept finding_width old.widths room.widths_room listed.widths_listed);
    steady_room = omega (arith, room.steady_room, kept finding_steady old.steady room.steady_room listed.steady_listed);
    baselines_room = omega (arith, room.baselines_room, kept finding_baseline old.baselines room.baselines_room listed.baselines_listed);
    starts_room = omega (arith, room.starts_room, kept finding_start old.starts room.starts_room listed.starts_listed);
    ends_room = omega (arith, room.ends_room, kept finding_end old.ends room.ends_room listed.ends_listed);
    verdicts_room = omega (arith, room.verdicts_room, ap length listed.verdicts_kept);
    rationales_room = omega (arith, room.rationales_room, ap length listed.rationales_kept);
  }

  held : (g : Finding → ℕ) (o : List ℕ) {m : List ℕ} → start + n ≤ length o → m ≡ written_from start o (map g fs) → (j : ℕ) → j < length fs → get_or m (start + j) 0 ≡ get_or (map g fs) j 0
  held g o r e j h = ap (λ l. get_or l (start + j) 0) e ∙ there start o (map g fs) j (omega arith) (omega (arith, length-map fs g))

  -- and they can be read again
  pub pulses-held : PulsesHeld start fs mid
  pulses-held = record {
    components_held = held finding_component old.components room.components_room listed.components_listed;
    polarities_held = held finding_polarity old.polarities room.polarities_room listed.polarities_listed;
    widths_held = held finding_width old.widths room.widths_room listed.widths_listed;
  }

-- both together
pub both_listed : {left : List ℕ → List ℕ → List ℕ} {fs : List Finding} {old mid new : FindingLists} → PulsesListed left fs old mid → JudgementsListed left fs mid new → FindingsListed left fs old new
both_listed {left} {fs} p j = record {
  components_listed = j.components_kept ∙ p.components_listed;
  polarities_listed = j.polarities_kept ∙ p.polarities_listed;
  units_listed = j.units_kept ∙ p.units_listed;
  start_ticks_listed = j.start_ticks_kept ∙ p.start_ticks_listed;
  end_ticks_listed = j.end_ticks_kept ∙ p.end_ticks_listed;
  widths_listed = j.widths_kept ∙ p.widths_listed;
  steady_listed = j.steady_kept ∙ p.steady_listed;
  baselines_listed = j.baselines_kept ∙ p.baselines_listed;
  starts_listed = j.starts_kept ∙ p.starts_listed;
  ends_listed = j.ends_kept ∙ p.ends_listed;
  verdicts_listed = j.verdicts_listed ∙ ap (λ o. left o (map finding_verdict fs)) p.verdicts_kept;
  rationales_listed = j.rationales_listed ∙ ap (λ o. left o (map finding_rationale fs)) p.rationales_kept;
}
