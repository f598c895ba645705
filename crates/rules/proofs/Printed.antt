-- Texts and what the program prints for them, as one tabulated fact: document 01's example, a line for each form of reason, pattern and label,
-- and texts that break the form. Assumes nothing.
use mathlib.Core.List.{List, [], ◌∷◌, map}
use mathlib.Core.Path.{◌≡◌, refl}
use Prim.Native.String.{String, ◌++◌}
use Rattle.rules.specs.Lists.{every}
use Rattle.rules.specs.Bytes.{bytes, value_from, is_decimal, number_up_to, signed_number, digits_up_to, decimal}
use lib.ListN.{replicate}
use Rattle.rules.specs.Text.{line_feed, line_of, after_line, starts_with, and_then, field, rows_of, delay_word, counted, component, connection, scene_at, read_scene}
use Rattle.rules.specs.Report.{ids_text, reason_line, projected_lines, label_lines, report, refusal_text, check_read, report_of}
use Rattle.rules.proofs.Questions.{computes}

record Row : Type 0 where
  text : String
  printed : String

infix 80 ◌prints◌
abbrev ◌prints◌ : String → String → Row
t prints p = record { text = t; printed = p }

-- 14 at a line
abbrev breaks : String → String → Row
breaks t line = t prints ("refusal=14\nplace=" ++ (line ++ "\n"))

-- a component at 0, 0, 0; a connection; a structural support
abbrev block : String → String → String → String → String
block i kind delay locked = "id=" ++ (i ++ ("\nkind=" ++ (kind ++ ("\ndelay=" ++ (delay ++ ("\nlocked=" ++ (locked ++ "\nx=0\ny=0\nz=0\n")))))))

abbrev link : String → String → String
link a b = "source=" ++ (a ++ ("\nsink=" ++ (b ++ "\ntransfer=1\n")))

abbrev support : String → String → String
support a b = "source=" ++ (a ++ ("\nsink=" ++ (b ++ "\ntransfer=6\n")))

-- one lever, with the fields x, y and z as given, and no connection
abbrev placed : String → String
placed xyz = "components=1\nid=1\nkind=3\ndelay=none\nlocked=0\n" ++ (xyz ++ "connections=0\n")

abbrev lever : String
lever = "scope=steady_state_safe\nreasons=0\nretained=1\ncompressed=0\nprojected=0\npattern=none\ncomponent=1\nlabel=0,0\n"

abbrev rows : List Row
rows =
    -- document 01's example
    "components=1\nid=1\nkind=9\ndelay=none\nlocked=0\nx=0\ny=0\nz=0\nconnections=1\nsource=1\nsink=1\ntransfer=1\n" prints "scope=steady_state_safe\nreasons=0\nretained=1\ncompressed=0\nprojected=1\nsource=1\nsink=1\ninverted=1\nminimum=1\nmaximum=1\npath=1,1\npattern=delayed_path\ncomponent=1\nlabel=unsettled\n"
    -- nothing
    ∷ "components=0\nconnections=0\n" prints "scope=steady_state_safe\nreasons=0\nretained=0\ncompressed=0\nprojected=0\npattern=none\n"
    -- a lever into a repeater and a lamp, and on from the repeater to the lamp
    ∷ ("components=3\n" ++ (block "1" "3" "none" "0" ++ (block "2" "10" "1" "0" ++ (block "4" "6" "0" "1" ++ ("connections=3\n" ++ (link "1" "2" ++ (link "2" "4" ++ link "1" "4")))))))
    prints "scope=timing_sensitive\nreasons=1\nreason=unequal:4:0:1\nretained=2\ncompressed=1\nprojected=2\nsource=1\nsink=4\ninverted=0\nminimum=1\nmaximum=1\npath=1,2,4\nsource=1\nsink=4\ninverted=0\nminimum=0\nmaximum=0\npath=1,4\npattern=delayed_path\ncomponent=1\nlabel=0,0\ncomponent=2\nlabel=0,0\ncomponent=4\nlabel=0,1\n"
    -- two repeaters in a ring; a torch and a wire in one; a lever, a repeater of its own delay and a lamp
    ∷ ("components=2\n" ++ (block "1" "10" "none" "0" ++ (block "2" "10" "3" "0" ++ ("connections=2\n" ++ (link "1" "2" ++ link "2" "1")))))
    prints "scope=temporal_required\nreasons=1\nreason=feedback:1,2\nretained=0\ncompressed=2\nprojected=0\npattern=latch:1,2\ncomponent=1\nlabel=unsettled\ncomponent=2\nlabel=unsettled\n"
    ∷ ("components=2\n" ++ (block "1" "9" "none" "0" ++ (block "2" "8" "none" "0" ++ ("connections=2\n" ++ (link "1" "2" ++ link "2" "1")))))
    prints "scope=temporal_required\nreasons=1\nreason=feedback:1\nretained=1\ncompressed=1\nprojected=1\nsource=1\nsink=1\ninverted=1\nminimum=1\nmaximum=1\npath=1,2,1\npattern=clock:1\ncomponent=1\nlabel=unsettled\ncomponent=2\nlabel=unsettled\n"
    ∷ ("components=3\n" ++ (block "1" "3" "none" "0" ++ (block "2" "10" "4" "0" ++ (block "3" "6" "none" "0" ++ ("connections=2\n" ++ (link "1" "2" ++ link "2" "3"))))))
    prints "scope=steady_state_safe\nreasons=0\nretained=2\ncompressed=1\nprojected=1\nsource=1\nsink=3\ninverted=0\nminimum=4\nmaximum=4\npath=1,2,3\npattern=delayed_path\ncomponent=1\nlabel=0,0\ncomponent=2\nlabel=0,0\ncomponent=3\nlabel=4,4\n"
    -- every kind of reason: a loop with a torch, a comparator, a locked repeater and a piston, unequal delays; a support of absent ids
    ∷ ("components=6\n" ++ (block "9" "11" "none" "0" ++ (block "8" "9" "none" "0" ++ (block "7" "10" "2" "1" ++ (block "5" "6" "none" "0" ++ (block "3" "12" "none" "0" ++ (block "1" "4" "none" "0" ++ ("connections=6\n" ++ (link "8" "9" ++ (link "9" "8" ++ (link "1" "7" ++ (link "7" "5" ++ (support "50" "51" ++ link "1" "5")))))))))))))
    prints "scope=temporal_required\nreasons=5\nreason=feedback:9,8\nreason=stateful:9\nreason=locked:7\nreason=stateful:3\nreason=unequal:5:0:2\nretained=5\ncompressed=1\nprojected=4\nsource=1\nsink=5\ninverted=0\nminimum=2\nmaximum=2\npath=1,7,5\nsource=1\nsink=5\ninverted=0\nminimum=0\nmaximum=0\npath=1,5\nsource=8\nsink=9\ninverted=1\nminimum=1\nmaximum=1\npath=8,9\nsource=9\nsink=8\ninverted=0\nminimum=0\nmaximum=0\npath=9,8\npattern=clock:9,8\ncomponent=9\nlabel=unsettled\ncomponent=8\nlabel=unsettled\ncomponent=7\nlabel=0,0\ncomponent=5\nlabel=0,2\ncomponent=3\nlabel=0,0\ncomponent=1\nlabel=0,0\n"
    -- the scene's refusals: 3, 4, 5 and 6
    ∷ "components=2\nid=1\nkind=3\ndelay=none\nlocked=0\nx=0\ny=0\nz=0\nid=1\nkind=3\ndelay=none\nlocked=0\nx=0\ny=0\nz=0\nconnections=0\n" prints "refusal=3\nplace=1\n"
    ∷ "components=2\nid=1\nkind=3\ndelay=none\nlocked=0\nx=0\ny=0\nz=0\nid=2\nkind=13\ndelay=none\nlocked=0\nx=0\ny=0\nz=0\nconnections=0\n" prints "refusal=4\nplace=1\n"
    ∷ "components=0\nconnections=1\nsource=1\nsink=1\ntransfer=7\n" prints "refusal=5\nplace=0\n"
    ∷ "components=1\nid=1\nkind=3\ndelay=none\nlocked=0\nx=0\ny=0\nz=0\nconnections=1\nsource=1\nsink=2\ntransfer=1\n" prints "refusal=6\nplace=0\n"
    -- 14 before them; anything after the last line
    ∷ breaks "components=1\nid=1\nkind=13\ndelay=none\nlocked=0\nx=0\ny=0\nz=0\nconnections=0\n\n" "10"
    ∷ breaks "components=0\nconnections=0\n0" "3"
    -- lines missing, also where a count is huge
    ∷ breaks "" "1"
    ∷ breaks "components=1\n" "2"
    ∷ breaks "components=18446744073709551615\n" "2"
    ∷ breaks "components=0\nconnections=2\nsource=1\nsink=1\ntransfer=1\n" "6"
    -- a last line without its line feed
    ∷ breaks "components=0" "1"
    ∷ breaks "components=0\nconnections=0" "2"
    -- numbers past their width
    ∷ breaks "components=18446744073709551616\n" "1"
    ∷ breaks "components=1\nid=18446744073709551616\nkind=3\ndelay=none\nlocked=0\nx=0\ny=0\nz=0\nconnections=0\n" "2"
    ∷ breaks "components=1\nid=1\nkind=256\ndelay=none\nlocked=0\nx=0\ny=0\nz=0\nconnections=0\n" "3"
    ∷ breaks "components=1\nid=1\nkind=3\ndelay=256\nlocked=0\nx=0\ny=0\nz=0\nconnections=0\n" "4"
    ∷ breaks "components=1\nid=1\nkind=3\ndelay=none\nlocked=2\nx=0\ny=0\nz=0\nconnections=0\n" "5"
    ∷ breaks "components=0\nconnections=1\nsource=1\nsink=1\ntransfer=256\n" "5"
    ∷ breaks (placed "x=2147483648\ny=0\nz=0\n") "6"
    ∷ breaks (placed "x=0\ny=-2147483649\nz=0\n") "7"
    -- and at it
    ∷ placed "x=2147483647\ny=-2147483648\nz=-1\n" prints lever
    ∷ "components=1\nid=18446744073709551615\nkind=3\ndelay=255\nlocked=1\nx=0\ny=0\nz=0\nconnections=0\n" prints "scope=steady_state_safe\nreasons=0\nretained=1\ncompressed=0\nprojected=0\npattern=none\ncomponent=18446744073709551615\nlabel=0,0\n"
    ∷ "components=1\nid=1\nkind=255\ndelay=none\nlocked=0\nx=0\ny=0\nz=0\nconnections=0\n" prints "refusal=4\nplace=0\n"
    -- leading zeros, signs, other bytes, no digits, no name
    ∷ breaks "components=00\n" "1"
    ∷ breaks "components=1\nid=1\nkind=3\ndelay=01\nlocked=0\nx=0\ny=0\nz=0\nconnections=0\n" "4"
    ∷ breaks (placed "x=0\ny=-0\nz=0\n") "7"
    ∷ breaks (placed "x=0\ny=0\nz=-01\n") "8"
    ∷ breaks (placed "x=-\ny=0\nz=0\n") "6"
    ∷ breaks (placed "x=--1\ny=0\nz=0\n") "6"
    ∷ breaks (placed "x=+1\ny=0\nz=0\n") "6"
    ∷ breaks "components=-1\n" "1"
    ∷ breaks "components=\n" "1"
    ∷ breaks "components=0 \n" "1"
    ∷ breaks "components=0\r\nconnections=0\n" "1"
    ∷ breaks "component=0\n" "1"
    ∷ breaks "\n" "1"
    -- `none` for a delay, whole, and for nothing else
    ∷ breaks "components=1\nid=1\nkind=3\ndelay=nonex\nlocked=0\nx=0\ny=0\nz=0\nconnections=0\n" "4"
    ∷ breaks "components=1\nid=1\nkind=3\ndelay=non\nlocked=0\nx=0\ny=0\nz=0\nconnections=0\n" "4"
    ∷ breaks "components=1\nid=1\nkind=none\ndelay=none\nlocked=0\nx=0\ny=0\nz=0\nconnections=0\n" "3"
    -- fields in another order
    ∷ breaks "components=1\nkind=3\nid=1\ndelay=none\nlocked=0\nx=0\ny=0\nz=0\nconnections=0\n" "2"
    ∷ []

prints-hold : map (λ r. report_of (bytes r.text)) rows ≡ map (λ r. bytes r.printed) rows
unfolding computes every value_from is_decimal number_up_to signed_number digits_up_to decimal line_of after_line starts_with and_then field rows_of delay_word
    counted component connection scene_at read_scene ids_text reason_line projected_lines label_lines report refusal_text check_read report_of
prints-hold = refl

-- "over 65,536 bytes": one line feed after another, one byte past the limit and at it
long-hold : (report_of (replicate 65537 line_feed) ≡ bytes "refusal=14\nplace=0\n") × (report_of (replicate 65536 line_feed) ≡ bytes "refusal=14\nplace=1\n")
unfolding computes every value_from is_decimal number_up_to digits_up_to decimal line_of after_line starts_with and_then field counted scene_at read_scene refusal_text report_of
long-hold = (refl, refl)
