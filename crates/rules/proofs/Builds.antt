-- The builds and traces to hold against, with the wrong turns and the order of the refusals, as one tabulated fact. Assumes nothing.
use mathlib.Core.List.{List, [], ◌∷◌, map}
use mathlib.Core.Path.{◌≡◌, refl}
use Prim.Native.Nat.{ℕ}
use lib.IntN.{pos, negsuc}
use lib.ListN.{replicate}
use Rattle.rules.specs.Scene.{Component, Connection, connection_lists as joined}
use Rattle.rules.specs.Pulses.{event_lists as events}
use Rattle.rules.specs.Verdicts.{contract_lists as contracts}
use Rattle.rules.specs.Traces.{TraceLists, trace_lists as traced}
use Rattle.rules.specs.Recording.{TransientRecord}
use Rattle.rules.specs.declared.answers.RefusalKind.TheVariants.{IdUsedEarlier, RecordFull}
use Rattle.rules.specs.Refusals.{accepted, refused as refused_by}
use Rattle.rules.proofs.Questions.{Question, build, described, ranged, checks, fits, needs, sizes, trace, tests, compared, recording, appended, stored, path, Answer, report, description, ranges, judged, checked, record-after, holds, table, answer, computes}
use Rattle.rules.proofs.Questions.{block, lever, lamp, wire, torch, repeater, link, ◌to◌, support, plain, selves, assessed, unequal, loop, stateful, locked_at, between, unsettled, straight, inverting, ranging, device}
use Rattle.rules.proofs.Questions.{none, sevens, three, tested, pulse_at, peak, dip, wanted, intentional, stable, doubled, unread, contracted, no_pulse, high2, low2, few, held, observed, refused}

record Row : Type 0 where
  asked : Question
  expected : Answer

infix 80 ◌gives◌
abbrev ◌gives◌ : Question → Answer → Row
q gives a = record { asked = q; expected = a }

-- recording with a list 9 of 9 entries, refused with a number and place
abbrev refuses : TransientRecord → TraceLists → ℕ → ℕ → Row
refuses r t number place = recording 9 r t gives refused r number place

-- a comparator, air and a piston in a loop; two lamps, each by two ways; a torch outside the loop; a support
abbrev mixed : List Component
mixed = block 9 11 256 0 ∷ block 8 12 256 0 ∷ block 7 10 3 1 ∷ torch 6 ∷ lamp 5 ∷ lamp 2 ∷ block 3 0 256 0 ∷ block 1 4 256 0 ∷ []

abbrev mixed_joined : List Connection
mixed_joined = link 1 7 0 ∷ 7 to 5 ∷ support 50 51 ∷ link 1 5 2 ∷ link 6 2 3 ∷ link 1 2 4 ∷ link 9 3 5 ∷ 3 to 8 ∷ 8 to 9 ∷ []

-- three pulses: 7 Low, 9 High, 9 Low, of width 3 each
abbrev mixed_trace : TraceLists
mixed_trace =
    traced 1 (events (10 ∷ 11 ∷ 12 ∷ 13 ∷ 15 ∷ 16 ∷ 18 ∷ 19 ∷ 20 ∷ []) (9 ∷ 7 ∷ 9 ∷ 7 ∷ 9 ∷ 7 ∷ 9 ∷ 7 ∷ 7 ∷ [])
    (0 ∷ 1 ∷ 1 ∷ 0 ∷ 0 ∷ 1 ∷ 1 ∷ 1 ∷ 1 ∷ []))
    (contracts (7 ∷ 9 ∷ []) (3 ∷ 2 ∷ []) (9 ∷ 9 ∷ []) (1 ∷ 0 ∷ []) (1 ∷ 1 ∷ []) (9 ∷ 2 ∷ []) (3 ∷ 4 ∷ []))

abbrev rows : List Row
rows =
    -- empty: safe, nothing listed
    build [] []
    gives report (record { numbers = assessed 0 3 0 0 0 0 0 0; reasons = []; feedback = []; marks = []; projected = []; starts = []; labels = [] })
    -- lever 1 → repeater 2 (4) → lamp 3
    ∷ build (lever 1 ∷ repeater 2 4 ∷ lamp 3 ∷ []) (1 to 2 ∷ 2 to 3 ∷ [])
    gives report (record {
      numbers = assessed 0 0 0 0 2 1 1 3;
      reasons = [];
      feedback = [];
      marks = 1 ∷ 0 ∷ 1 ∷ [];
      projected = straight 1 3 4 (1 ∷ 2 ∷ 3 ∷ []) ∷ [];
      starts = 0 ∷ [];
      labels = between 0 0 ∷ between 0 0 ∷ between 4 4 ∷ [];
    })
    -- 1→2, 2→4, 1→4 with lever 1, repeater 2 (1), lamp 4
    ∷ build (lever 1 ∷ repeater 2 1 ∷ lamp 4 ∷ []) (1 to 2 ∷ 2 to 4 ∷ 1 to 4 ∷ [])
    gives report (record {
      numbers = assessed 1 0 1 0 2 1 2 5;
      reasons = unequal 4 0 1 ∷ [];
      feedback = [];
      marks = 1 ∷ 0 ∷ 1 ∷ [];
      projected = straight 1 4 1 (1 ∷ 2 ∷ 4 ∷ []) ∷ straight 1 4 0 (1 ∷ 4 ∷ []) ∷ [];
      starts = 0 ∷ 3 ∷ [];
      labels = between 0 0 ∷ between 0 0 ∷ between 0 1 ∷ [];
    })
    -- the same with lamp 4 on a loop of its own: it has no label, and the reason stands
    ∷ build (lever 1 ∷ repeater 2 1 ∷ lamp 4 ∷ []) (1 to 2 ∷ 2 to 4 ∷ 1 to 4 ∷ 4 to 4 ∷ [])
    gives report (record {
      numbers = assessed 1 0 1 0 2 1 3 7;
      reasons = unequal 4 0 1 ∷ [];
      feedback = [];
      marks = 1 ∷ 0 ∷ 1 ∷ [];
      projected = straight 1 4 1 (1 ∷ 2 ∷ 4 ∷ []) ∷ straight 1 4 0 (1 ∷ 4 ∷ []) ∷ straight 4 4 0 (4 ∷ 4 ∷ []) ∷ [];
      starts = 0 ∷ 3 ∷ 5 ∷ [];
      labels = between 0 0 ∷ between 0 0 ∷ unsettled ∷ [];
    })
    -- repeaters 1→2→1
    ∷ build (repeater 1 1 ∷ repeater 2 1 ∷ []) (1 to 2 ∷ 2 to 1 ∷ [])
    gives report (record {
      numbers = assessed 2 2 1 2 0 2 0 0;
      reasons = loop ∷ [];
      feedback = 1 ∷ 2 ∷ [];
      marks = 0 ∷ 0 ∷ [];
      projected = [];
      starts = [];
      labels = unsettled ∷ unsettled ∷ [];
    })
    -- torch 1 → wire 2 → torch 1
    ∷ build (torch 1 ∷ wire 2 ∷ []) (1 to 2 ∷ 2 to 1 ∷ [])
    gives report (record {
      numbers = assessed 2 1 1 1 1 1 1 3;
      reasons = loop ∷ [];
      feedback = 1 ∷ [];
      marks = 1 ∷ 0 ∷ [];
      projected = inverting 1 1 1 (1 ∷ 2 ∷ 1 ∷ []) ∷ [];
      starts = 0 ∷ [];
      labels = unsettled ∷ unsettled ∷ [];
    })
    -- wires 1→2→3→1
    ∷ build (wire 1 ∷ wire 2 ∷ wire 3 ∷ []) (1 to 2 ∷ 2 to 3 ∷ 3 to 1 ∷ [])
    gives report (record {
      numbers = assessed 0 3 0 0 0 3 0 0;
      reasons = [];
      feedback = [];
      marks = 0 ∷ 0 ∷ 0 ∷ [];
      projected = [];
      starts = [];
      labels = unsettled ∷ unsettled ∷ unsettled ∷ [];
    })
    -- a wrong turn: two-way dust 2 ⇄ 3 is a cycle, so lamp 4 behind it has no label
    ∷ build (lever 1 ∷ wire 2 ∷ wire 3 ∷ lamp 4 ∷ []) (1 to 2 ∷ 2 to 3 ∷ 3 to 2 ∷ 3 to 4 ∷ [])
    gives report (record {
      numbers = assessed 0 3 0 0 4 0 4 8;
      reasons = [];
      feedback = [];
      marks = 1 ∷ 1 ∷ 1 ∷ 1 ∷ [];
      projected = straight 1 2 0 (1 ∷ 2 ∷ []) ∷ straight 2 3 0 (2 ∷ 3 ∷ []) ∷ straight 3 2 0 (3 ∷ 2 ∷ []) ∷ straight 3 4 0 (3 ∷ 4 ∷ []) ∷ [];
      starts = 0 ∷ 2 ∷ 4 ∷ 6 ∷ [];
      labels = between 0 0 ∷ unsettled ∷ unsettled ∷ unsettled ∷ [];
    })
    -- a wrong turn: a lone self-edge is a cycle, but no Feedback
    ∷ build (torch 1 ∷ []) (1 to 1 ∷ [])
    gives report (record {
      numbers = assessed 0 0 0 0 1 0 1 2;
      reasons = [];
      feedback = [];
      marks = 1 ∷ [];
      projected = inverting 1 1 1 (1 ∷ 1 ∷ []) ∷ [];
      starts = 0 ∷ [];
      labels = unsettled ∷ [];
    })
    -- the order of reasons and of projected edges: components as listed, unequal delays and starts by rising id
    ∷ build (block 8 12 256 0 ∷ block 5 10 3 1 ∷ lamp 4 ∷ lamp 2 ∷ block 1 3 256 1 ∷ block 6 11 256 0 ∷ [])
    (5 to 4 ∷ 1 to 5 ∷ 1 to 4 ∷ 5 to 2 ∷ 1 to 2 ∷ support 9 8 ∷ [])
    gives report (record {
      numbers = assessed 2 0 5 0 6 0 5 10;
      reasons = stateful 8 12 ∷ locked_at 5 ∷ stateful 6 11 ∷ unequal 2 0 3 ∷ unequal 4 0 3 ∷ [];
      feedback = [];
      marks = 1 ∷ 1 ∷ 1 ∷ 1 ∷ 1 ∷ 1 ∷ [];
      projected =
          straight 1 5 0 (1 ∷ 5 ∷ []) ∷ straight 1 4 0 (1 ∷ 4 ∷ []) ∷ straight 1 2 0 (1 ∷ 2 ∷ [])
          ∷ straight 5 4 3 (5 ∷ 4 ∷ []) ∷ straight 5 2 3 (5 ∷ 2 ∷ []) ∷ [];
      starts = 0 ∷ 2 ∷ 4 ∷ 6 ∷ 8 ∷ [];
      labels = between 0 0 ∷ between 0 0 ∷ between 0 3 ∷ between 0 3 ∷ between 0 0 ∷ between 0 0 ∷ [];
    })
    -- every kind of reason; no clock by a torch outside the loop
    ∷ build mixed mixed_joined
    gives report (record {
      numbers = assessed 2 2 6 2 6 2 6 14;
      reasons = loop ∷ stateful 9 11 ∷ stateful 8 12 ∷ locked_at 7 ∷ unequal 2 0 1 ∷ unequal 5 0 3 ∷ [];
      feedback = 9 ∷ 8 ∷ [];
      marks = 1 ∷ 1 ∷ 0 ∷ 1 ∷ 1 ∷ 1 ∷ 0 ∷ 1 ∷ [];
      projected =
          straight 1 5 3 (1 ∷ 7 ∷ 5 ∷ []) ∷ straight 1 5 0 (1 ∷ 5 ∷ []) ∷ straight 1 2 0 (1 ∷ 2 ∷ [])
          ∷ inverting 6 2 1 (6 ∷ 2 ∷ []) ∷ straight 8 9 1 (8 ∷ 9 ∷ []) ∷ straight 9 8 0 (9 ∷ 3 ∷ 8 ∷ []) ∷ [];
      starts = 0 ∷ 3 ∷ 5 ∷ 7 ∷ 9 ∷ 11 ∷ [];
      labels = unsettled ∷ unsettled ∷ between 0 0 ∷ between 0 0 ∷ between 0 3 ∷ between 0 1 ∷ unsettled ∷ between 0 0 ∷ [];
    })
    -- lever 1 ⇄ repeater 2 (255): a latch
    ∷ build (lever 1 ∷ repeater 2 255 ∷ []) (1 to 2 ∷ 2 to 1 ∷ [])
    gives report (record {
      numbers = assessed 2 2 1 2 1 1 1 3;
      reasons = loop ∷ [];
      feedback = 1 ∷ 2 ∷ [];
      marks = 1 ∷ 0 ∷ [];
      projected = straight 1 1 255 (1 ∷ 2 ∷ 1 ∷ []) ∷ [];
      starts = 0 ∷ [];
      labels = unsettled ∷ unsettled ∷ [];
    })
    -- plate 5, solid 1, repeater 10 (absent: 1), redstone block 7 and transparent 2 in a loop; only a repeater's delay word counts
    ∷ build (block 5 5 9 0 ∷ block 1 1 256 0 ∷ repeater 10 256 ∷ block 7 7 256 0 ∷ block 2 2 256 0 ∷ []) (5 to 1 ∷ 1 to 10 ∷ 10 to 7 ∷ 7 to 2 ∷ 2 to 5 ∷ [])
    gives report (record {
      numbers = assessed 2 2 1 3 2 3 2 7;
      reasons = loop ∷ [];
      feedback = 5 ∷ 10 ∷ 7 ∷ [];
      marks = 1 ∷ 0 ∷ 0 ∷ 1 ∷ 0 ∷ [];
      projected = straight 5 7 1 (5 ∷ 1 ∷ 10 ∷ 7 ∷ []) ∷ straight 7 5 0 (7 ∷ 2 ∷ 5 ∷ []) ∷ [];
      starts = 0 ∷ 4 ∷ [];
      labels = replicate 5 unsettled;
    })
    -- delays 1 to 2 everywhere: the smallest sum is of low delays, the largest of high ones
    ∷ ranged 1 2 (lever 1 ∷ repeater 2 9 ∷ lamp 4 ∷ []) (1 to 2 ∷ 2 to 4 ∷ 1 to 4 ∷ [])
    gives ranges (between 0 0 ∷ between 1 2 ∷ between 1 4 ∷ []) (unequal 4 1 4 ∷ []) (ranging 1 4 2 4 (1 ∷ 2 ∷ 4 ∷ []) ∷ ranging 1 4 1 2 (1 ∷ 4 ∷ []) ∷ [])
    ((1 ∷ 2 ∷ 1 ∷ 2 ∷ 0 ∷ []) ∷ (2 ∷ 4 ∷ 1 ∷ 2 ∷ 1 ∷ []) ∷ (1 ∷ 4 ∷ 1 ∷ 2 ∷ 0 ∷ []) ∷ [])
    -- timed edges, devices and evidence: a support gives evidence only
    ∷ described (wire 4 ∷ record { id = 7; kind = 10; delay = 2; locked = 0; x = pos 1; y = negsuc 1; z = pos 3 } ∷ torch 5 ∷ []) (7 to 4 ∷ support 8 9 ∷ 4 to 5 ∷ [])
    gives description (record {
      numbers = 0 ∷ 0 ∷ 2 ∷ 2 ∷ 5 ∷ [];
      edges = (7 ∷ 4 ∷ 2 ∷ 2 ∷ 1 ∷ []) ∷ (4 ∷ 5 ∷ 0 ∷ 0 ∷ 5 ∷ []) ∷ [];
      devices =
          record { component = 7; x = pos 1; y = negsuc 1; z = pos 3; semantics = 0; minimum_delay = 2 }
          ∷ device 5 1 1 ∷ [];
      evidence = (0 ∷ 7 ∷ 4 ∷ 0 ∷ 0 ∷ []) ∷ (0 ∷ 8 ∷ 9 ∷ 0 ∷ 0 ∷ []) ∷ (0 ∷ 4 ∷ 5 ∷ 0 ∷ 0 ∷ []) ∷ (1 ∷ 0 ∷ 0 ∷ 7 ∷ 10 ∷ []) ∷ (1 ∷ 0 ∷ 0 ∷ 5 ∷ 9 ∷ []) ∷ [];
    })
    -- each device and its edges
    ∷ described mixed mixed_joined
    gives description (record {
      numbers = 0 ∷ 0 ∷ 8 ∷ 4 ∷ 13 ∷ [];
      edges =
          (1 ∷ 7 ∷ 0 ∷ 0 ∷ 0 ∷ []) ∷ (7 ∷ 5 ∷ 3 ∷ 3 ∷ 1 ∷ []) ∷ (1 ∷ 5 ∷ 0 ∷ 0 ∷ 0 ∷ []) ∷ (6 ∷ 2 ∷ 1 ∷ 1 ∷ 2 ∷ [])
          ∷ (1 ∷ 2 ∷ 0 ∷ 0 ∷ 0 ∷ []) ∷ (9 ∷ 3 ∷ 0 ∷ 0 ∷ 3 ∷ []) ∷ (3 ∷ 8 ∷ 0 ∷ 0 ∷ 0 ∷ []) ∷ (8 ∷ 9 ∷ 1 ∷ 1 ∷ 4 ∷ []) ∷ [];
      devices = device 9 2 0 ∷ device 8 3 1 ∷ device 7 0 3 ∷ device 6 1 1 ∷ [];
      evidence =
          (0 ∷ 1 ∷ 7 ∷ 0 ∷ 0 ∷ []) ∷ (0 ∷ 7 ∷ 5 ∷ 0 ∷ 0 ∷ []) ∷ (0 ∷ 50 ∷ 51 ∷ 0 ∷ 0 ∷ []) ∷ (0 ∷ 1 ∷ 5 ∷ 0 ∷ 0 ∷ []) ∷ (0 ∷ 6 ∷ 2 ∷ 0 ∷ 0 ∷ [])
          ∷ (0 ∷ 1 ∷ 2 ∷ 0 ∷ 0 ∷ []) ∷ (0 ∷ 9 ∷ 3 ∷ 0 ∷ 0 ∷ []) ∷ (0 ∷ 3 ∷ 8 ∷ 0 ∷ 0 ∷ []) ∷ (0 ∷ 8 ∷ 9 ∷ 0 ∷ 0 ∷ [])
          ∷ (1 ∷ 0 ∷ 0 ∷ 9 ∷ 11 ∷ []) ∷ (1 ∷ 0 ∷ 0 ∷ 8 ∷ 12 ∷ []) ∷ (1 ∷ 0 ∷ 0 ∷ 7 ∷ 10 ∷ []) ∷ (1 ∷ 0 ∷ 0 ∷ 6 ∷ 9 ∷ []) ∷ [];
    })
    -- a path is a part of list 7; past the end of list 6, or outside list 7, it is empty
    ∷ path (1 ∷ 2 ∷ 3 ∷ 4 ∷ []) (0 ∷ 1 ∷ []) (1 ∷ 3 ∷ []) 1 gives holds (2 ∷ 3 ∷ 4 ∷ [])
    ∷ path (1 ∷ 2 ∷ 3 ∷ 4 ∷ []) (0 ∷ 2 ∷ []) (1 ∷ 3 ∷ []) 1 gives holds []
    ∷ path (1 ∷ 2 ∷ 3 ∷ 4 ∷ []) (0 ∷ 1 ∷ []) (1 ∷ []) 1 gives holds []
    ∷ path (1 ∷ 2 ∷ 3 ∷ 4 ∷ []) (0 ∷ []) (1 ∷ 3 ∷ []) 1 gives holds []
    -- entries past those written keep their values, and those before; under a refusal all do
    ∷ stored accepted 2 (1 ∷ 2 ∷ 3 ∷ 4 ∷ 5 ∷ []) (8 ∷ 9 ∷ []) gives holds (1 ∷ 2 ∷ 8 ∷ 9 ∷ 5 ∷ [])
    ∷ stored (refused_by IdUsedEarlier 1) 2 (1 ∷ 2 ∷ 3 ∷ 4 ∷ 5 ∷ []) (8 ∷ 9 ∷ []) gives holds (1 ∷ 2 ∷ 3 ∷ 4 ∷ 5 ∷ [])
    -- at one component 4 is tested before 3; a 3 at an earlier component comes before a 4 at a later one; components before connections
    ∷ checks 3 (plain (5 ∷ 5 ∷ []) (3 ∷ 13 ∷ [])) (joined (8 ∷ []) (8 ∷ []) (7 ∷ [])) gives checked 4 1
    ∷ checks 3 (plain (5 ∷ 5 ∷ 6 ∷ []) (3 ∷ 3 ∷ 13 ∷ [])) (joined (8 ∷ []) (8 ∷ []) (7 ∷ [])) gives checked 3 1
    -- at one connection 5 is tested before 6; a 6 at an earlier one comes before a 5 at a later one; a support may name absent ids
    ∷ checks 3 (plain (5 ∷ []) (3 ∷ [])) (joined (5 ∷ 8 ∷ []) (5 ∷ 8 ∷ []) (0 ∷ 7 ∷ [])) gives checked 5 1
    ∷ checks 3 (plain (5 ∷ []) (3 ∷ [])) (joined (5 ∷ 5 ∷ []) (8 ∷ 5 ∷ []) (0 ∷ 7 ∷ [])) gives checked 6 0
    ∷ checks 3 (plain (5 ∷ []) (3 ∷ [])) (joined (8 ∷ 5 ∷ []) (9 ∷ 8 ∷ []) (6 ∷ 0 ∷ [])) gives checked 6 1
    ∷ checks 3 (plain (5 ∷ []) (3 ∷ [])) (joined (8 ∷ []) (5 ∷ []) (0 ∷ [])) gives checked 6 0
    -- 8, 1, 2, then 7, before any component
    ∷ checks 0 (plain (1 ∷ 2 ∷ 3 ∷ 4 ∷ []) (13 ∷ [])) (joined (1 ∷ 1 ∷ 1 ∷ []) [] []) gives checked 8 0
    ∷ checks 0 (plain (1 ∷ 2 ∷ 3 ∷ 4 ∷ []) (13 ∷ 3 ∷ 3 ∷ 3 ∷ [])) (joined (1 ∷ 1 ∷ 1 ∷ []) [] []) gives checked 8 1
    ∷ checks 0 (plain (1 ∷ 2 ∷ 3 ∷ 4 ∷ []) (13 ∷ 3 ∷ 3 ∷ 3 ∷ [])) (selves 3) gives checked 1 4
    ∷ checks 1 (plain (1 ∷ 2 ∷ []) (13 ∷ 3 ∷ [])) (selves 3) gives checked 2 3
    ∷ checks 2 (plain (1 ∷ 2 ∷ 3 ∷ []) (13 ∷ 3 ∷ 3 ∷ [])) (selves 1) gives checked 7 8
    ∷ checks 3 (plain (1 ∷ 2 ∷ 3 ∷ []) (3 ∷ 3 ∷ 3 ∷ [])) (selves 2) gives checked 0 0
    -- what lists 0 to 8 need for 3 components and 5 connections
    ∷ needs 3 5
    gives table ((0 ∷ 5 ∷ 10 ∷ []) ∷ (1 ∷ 3 ∷ 11 ∷ []) ∷ (2 ∷ 8 ∷ 12 ∷ [])
    ∷ (3 ∷ 7 ∷ 13 ∷ []) ∷ (4 ∷ 3 ∷ 14 ∷ []) ∷ (5 ∷ 3 ∷ 15 ∷ [])
    ∷ (6 ∷ 5 ∷ 16 ∷ []) ∷ (7 ∷ 13 ∷ 17 ∷ []) ∷ (8 ∷ 3 ∷ 18 ∷ []) ∷ [])
    -- for 1 component and 2 connections: just enough, then too little for lists 1, 2, 5 and 7, then for 0 and 8
    ∷ fits (2 ∷ 1 ∷ 3 ∷ 3 ∷ 1 ∷ 1 ∷ 2 ∷ 5 ∷ 1 ∷ []) (plain (1 ∷ []) (3 ∷ [])) (selves 2)
    gives table ((0 ∷ 0 ∷ 2 ∷ 0 ∷ 2 ∷ []) ∷ assessed 0 3 0 0 1 0 2 4 ∷ (0 ∷ 0 ∷ 2 ∷ 0 ∷ 2 ∷ 0 ∷ 3 ∷ 100 ∷ 0 ∷ 0 ∷ 1 ∷ 0 ∷ 2 ∷ 4 ∷ []) ∷ [])
    ∷ fits (2 ∷ 0 ∷ 2 ∷ 3 ∷ 1 ∷ 0 ∷ 2 ∷ 4 ∷ 1 ∷ []) (plain (1 ∷ []) (3 ∷ [])) (selves 2)
    gives table ((7 ∷ 1 ∷ 0 ∷ 0 ∷ 0 ∷ []) ∷ (7 ∷ 5 ∷ replicate 9 0) ∷ (7 ∷ 1 ∷ replicate 12 0) ∷ [])
    ∷ fits (1 ∷ 1 ∷ 3 ∷ 3 ∷ 1 ∷ 1 ∷ 2 ∷ 5 ∷ 0 ∷ []) (plain (1 ∷ []) (3 ∷ [])) (selves 2)
    gives table ((7 ∷ 0 ∷ 0 ∷ 0 ∷ 0 ∷ []) ∷ (7 ∷ 8 ∷ replicate 9 0) ∷ (7 ∷ 0 ∷ replicate 12 0) ∷ [])
    -- a torch alone, with too little for list 3: lists 0 to 2 are refused with the rest where all nine are asked for
    ∷ fits (0 ∷ 1 ∷ 1 ∷ 2 ∷ 1 ∷ 1 ∷ 0 ∷ 1 ∷ 1 ∷ []) (plain (1 ∷ []) (9 ∷ [])) (joined [] [] [])
    gives table ((0 ∷ 0 ∷ 0 ∷ 1 ∷ 1 ∷ []) ∷ (7 ∷ 3 ∷ replicate 9 0) ∷ (7 ∷ 3 ∷ replicate 12 0) ∷ [])
    -- components, connections, events, contracts, traces, findings for each trace
    ∷ sizes gives holds (512 ∷ 2048 ∷ 4096 ∷ 512 ∷ 64 ∷ 4096 ∷ [])
    -- off 10, on 12, off 14: High, width 2
    ∷ pulse_at 10 12 14 none gives high2 0 2 0
    -- first tick 20: same
    ∷ pulse_at 20 12 14 none gives high2 0 2 0
    -- third tick 12, or before: no pulse
    ∷ pulse_at 10 12 12 none gives no_pulse
    ∷ pulse_at 10 12 11 none gives no_pulse
    -- on, off, on, on, on: one pulse; next the third differs, then the second does not
    ∷ trace (traced 0 (sevens (10 ∷ 12 ∷ 14 ∷ 15 ∷ 17 ∷ []) (1 ∷ 0 ∷ 1 ∷ 1 ∷ 1 ∷ [])) none) gives low2 0 2 0
    -- width 2 against 2 to 2: IntentionalPulse; against 3 to 2: HazardConfirmed
    ∷ peak (intentional 2 2) gives high2 1 4 6
    ∷ peak (intentional 3 2) gives high2 1 3 7
    -- too wide, of another polarity, of another unit
    ∷ peak (intentional 1 1) gives high2 1 3 7
    ∷ peak (wanted 2 1 0 2 2) gives high2 1 3 7
    ∷ peak (wanted 2 0 1 2 2) gives high2 1 3 7
    -- a maximum of 2: PulseObserved; of 1, of another polarity, of another unit: HazardConfirmed
    ∷ peak (wanted 3 0 0 9 2) gives high2 1 0 8
    ∷ peak (wanted 3 0 0 9 1) gives high2 1 3 9
    ∷ peak (wanted 3 1 0 9 2) gives high2 1 3 9
    ∷ peak (wanted 3 0 1 9 2) gives high2 1 3 9
    -- SteadyStateOnly; a contract of another component
    ∷ peak (wanted 0 9 9 9 9) gives high2 1 1 1
    ∷ peak (unread (8 ∷ []) (0 ∷ [])) gives high2 1 2 0
    -- a wrong turn: Stable does not pass a pulse of the wanted level
    ∷ peak (stable 1) gives high2 1 3 4
    ∷ peak (stable 0) gives high2 1 3 2
    ∷ dip (stable 0) gives low2 1 3 3
    ∷ dip (stable 1) gives low2 1 3 5
    -- two components: by rising component, windows overlap, indices count in the whole trace
    ∷ trace (traced 1 (events (5 ∷ 5 ∷ 6 ∷ 7 ∷ 9 ∷ 9 ∷ 12 ∷ []) (9 ∷ 3 ∷ 9 ∷ 3 ∷ 9 ∷ 3 ∷ 3 ∷ []) (1 ∷ 0 ∷ 0 ∷ 1 ∷ 1 ∷ 0 ∷ 1 ∷ []))
    (contracts (3 ∷ 9 ∷ []) (3 ∷ 0 ∷ []) (9 ∷ 9 ∷ []) (0 ∷ 9 ∷ []) (1 ∷ 9 ∷ []) (9 ∷ 9 ∷ []) (2 ∷ 9 ∷ [])))
    gives judged (record {
      numbers = 0 ∷ 0 ∷ 3 ∷ 2 ∷ [];
      tallies = 1 ∷ 1 ∷ 0 ∷ 1 ∷ 0 ∷ [];
      findings =
          (3 ∷ 0 ∷ 1 ∷ 7 ∷ 9 ∷ 2 ∷ 0 ∷ 1 ∷ 3 ∷ 5 ∷ 0 ∷ 8 ∷ [])
          ∷ (3 ∷ 1 ∷ 1 ∷ 9 ∷ 12 ∷ 3 ∷ 1 ∷ 3 ∷ 5 ∷ 6 ∷ 3 ∷ 9 ∷ [])
          ∷ (9 ∷ 1 ∷ 1 ∷ 6 ∷ 9 ∷ 3 ∷ 1 ∷ 0 ∷ 2 ∷ 4 ∷ 1 ∷ 1 ∷ []) ∷ [];
    })
    -- one fits a maximum, one is wanted, one is of another polarity
    ∷ trace mixed_trace
    gives judged (record {
      numbers = 0 ∷ 0 ∷ 3 ∷ 2 ∷ [];
      tallies = 1 ∷ 0 ∷ 0 ∷ 1 ∷ 1 ∷ [];
      findings =
          (7 ∷ 1 ∷ 1 ∷ 13 ∷ 16 ∷ 3 ∷ 1 ∷ 1 ∷ 3 ∷ 5 ∷ 0 ∷ 8 ∷ [])
          ∷ (9 ∷ 0 ∷ 1 ∷ 12 ∷ 15 ∷ 3 ∷ 0 ∷ 0 ∷ 2 ∷ 4 ∷ 4 ∷ 6 ∷ [])
          ∷ (9 ∷ 1 ∷ 1 ∷ 15 ∷ 18 ∷ 3 ∷ 1 ∷ 2 ∷ 4 ∷ 6 ∷ 3 ∷ 7 ∷ []) ∷ [];
    })
    -- a refused trace has no findings
    ∷ trace (traced 2 (three (0 ∷ 1 ∷ 0 ∷ [])) none) gives judged (record { numbers = 11 ∷ 0 ∷ 0 ∷ 0 ∷ []; tallies = replicate 5 0; findings = [] })
    -- 8, 9, 10, 7, 11 for the unit, then events, then contracts, each with later faults
    ∷ tests few (2 ∷ []) (traced 2 (three (2 ∷ [])) (contracts (7 ∷ 7 ∷ 7 ∷ []) [] [] [] [] [] [])) gives checked 8 2
    ∷ tests few (2 ∷ []) (traced 2 (sevens (1 ∷ 2 ∷ 3 ∷ 4 ∷ []) (2 ∷ 0 ∷ 0 ∷ 0 ∷ [])) (contracts (7 ∷ 7 ∷ 7 ∷ []) [] [] [] [] [] [])) gives checked 8 3
    ∷ tests few (2 ∷ []) (traced 2 (sevens (1 ∷ 2 ∷ 3 ∷ 4 ∷ []) (2 ∷ 0 ∷ 0 ∷ 0 ∷ [])) (unread (7 ∷ 7 ∷ 7 ∷ []) (4 ∷ 4 ∷ 4 ∷ []))) gives checked 9 4
    ∷ tests few (2 ∷ []) (traced 2 (three (2 ∷ 0 ∷ 0 ∷ [])) (unread (7 ∷ 7 ∷ 7 ∷ []) (4 ∷ 4 ∷ 4 ∷ []))) gives checked 10 3
    ∷ tests few (3 ∷ 2 ∷ []) (traced 2 (three (2 ∷ 0 ∷ 0 ∷ [])) (unread (7 ∷ []) (4 ∷ []))) gives checked 7 9
    ∷ tests few (3 ∷ []) (traced 2 (three (0 ∷ 2 ∷ 0 ∷ [])) (unread (7 ∷ 7 ∷ []) (0 ∷ 4 ∷ []))) gives checked 11 0
    ∷ tests few (3 ∷ []) (traced 1 (three (0 ∷ 2 ∷ 0 ∷ [])) (unread (7 ∷ []) (4 ∷ []))) gives checked 11 1
    ∷ tests few (3 ∷ []) (traced 1 (three (0 ∷ 0 ∷ 9 ∷ [])) (unread (7 ∷ []) (4 ∷ []))) gives checked 11 2
    -- an intent past 3; polarity and unit of intents 2 and 3; a contract below the one before
    ∷ tested (doubled 4 0 0) gives checked 11 0
    ∷ tested (doubled 2 2 0) gives checked 11 0
    ∷ tested (doubled 2 0 9) gives checked 11 0
    ∷ tested (doubled 3 9 0) gives checked 11 0
    ∷ tested (doubled 3 0 2) gives checked 11 0
    ∷ tested (unread (7 ∷ 6 ∷ []) (0 ∷ 0 ∷ [])) gives checked 12 1
    -- all that is allowed
    ∷ tested (contracts (7 ∷ 8 ∷ []) (3 ∷ 2 ∷ []) (9 ∷ 9 ∷ []) (1 ∷ 1 ∷ []) (1 ∷ 1 ∷ []) (9 ∷ 9 ∷ []) (9 ∷ 9 ∷ [])) gives checked 0 0
    -- the length of each list counts
    ∷ compared (traced 0 (events (replicate 1 0) (replicate 2 0) (replicate 3 0))
    (contracts (replicate 4 0) (replicate 5 0) (replicate 6 0) (replicate 7 0) (replicate 8 0) (replicate 9 0) (replicate 10 0)))
    gives holds (1 ∷ 2 ∷ 3 ∷ 4 ∷ 5 ∷ 6 ∷ 7 ∷ 8 ∷ 9 ∷ 10 ∷ [])
    -- a false record is 15, also with 64 traces; then 13; then the trace's own: 7, 11 for the unit, contracts one by one
    ∷ refuses (held 64 1 (observed 0)) (contracted 2 [] []) 15 0
    ∷ refuses (held 1 1 (observed 2)) (contracted 0 [] []) 15 0
    ∷ refuses (held 1 4097 (observed 4097)) (contracted 0 [] []) 15 0
    ∷ refuses (held 64 1 (0 ∷ 1 ∷ 0 ∷ 0 ∷ 0 ∷ [])) (contracted 2 [] []) 13 0
    ∷ refuses (held 65 0 (observed 0)) (contracted 0 [] []) 13 0
    ∷ refuses (held 1 9 (observed 9)) (contracted 2 [] []) 7 9
    ∷ refuses (held 0 0 (observed 0)) (contracted 9 (4 ∷ 4 ∷ []) (0 ∷ 4 ∷ [])) 11 0
    ∷ refuses (held 1 8 (observed 8)) (contracted 1 (4 ∷ 6 ∷ 6 ∷ 9 ∷ []) (0 ∷ 0 ∷ 0 ∷ 2 ∷ [])) 12 2
    ∷ refuses (held 1 8 (observed 8)) (contracted 1 (4 ∷ 4 ∷ []) (0 ∷ 1 ∷ [])) 11 1
    -- 63 traces with just enough room; 8192 findings of two traces, and one more
    ∷ recording 9 (held 63 8 (observed 8)) (contracted 1 (4 ∷ 5 ∷ []) (0 ∷ 0 ∷ [])) gives record-after (0 ∷ 0 ∷ 0 ∷ 2 ∷ []) (held 64 8 (observed 8))
    ∷ recording 8193 (held 2 8192 (observed 8192)) (contracted 0 [] []) gives record-after (0 ∷ 0 ∷ 0 ∷ 0 ∷ []) (held 3 8192 (observed 8192))
    ∷ refuses (held 2 8193 (observed 8193)) (contracted 0 [] []) 15 0
    -- a recorded trace: traces, findings and tallies grow by it; refused, nothing does
    ∷ recording 9 (held 1 4 (1 ∷ 0 ∷ 3 ∷ 0 ∷ 0 ∷ [])) (traced 0 (sevens (10 ∷ 12 ∷ 14 ∷ 15 ∷ []) (0 ∷ 1 ∷ 0 ∷ 1 ∷ [])) none)
    gives record-after (0 ∷ 0 ∷ 2 ∷ 0 ∷ []) (held 2 6 (1 ∷ 0 ∷ 5 ∷ 0 ∷ 0 ∷ []))
    ∷ recording 11 (held 1 2 (0 ∷ 2 ∷ 0 ∷ 0 ∷ 0 ∷ [])) mixed_trace gives record-after (0 ∷ 0 ∷ 3 ∷ 2 ∷ []) (held 2 5 (1 ∷ 2 ∷ 0 ∷ 1 ∷ 1 ∷ []))
    ∷ refuses (held 1 2 (0 ∷ 2 ∷ 0 ∷ 0 ∷ 0 ∷ [])) mixed_trace 7 9
    -- its findings stand after those held; refused, all stays
    ∷ appended accepted (held 1 2 (observed 2)) (replicate 6 99) (7 ∷ 9 ∷ 9 ∷ []) gives holds (99 ∷ 99 ∷ 7 ∷ 9 ∷ 9 ∷ 99 ∷ [])
    ∷ appended (refused_by RecordFull 0) (held 1 2 (observed 2)) (replicate 6 99) (7 ∷ 9 ∷ 9 ∷ []) gives holds (replicate 6 99)
    ∷ []

builds-hold : map (λ r. answer r.asked) rows ≡ map (λ r. r.expected) rows
unfolding computes
builds-hold = refl
