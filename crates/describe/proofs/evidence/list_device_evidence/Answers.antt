-- The components are gone through in order. Assumes nothing.
use Rattle.std.proofs.Common.{length, refl, sym, ap, ◌∙◌, arith, rules, length-append}
use Rattle.rules.specs.Kinds.{kind_row, is_device}
use Rattle.std.proofs.lemmas.Slice.Zip.{zip_turn}
use Rattle.describe.proofs.DeviceSteps.{taken, passed, placed_none, placed_more, placed_same, listed_none, listed_more, listed_same}
use Rattle.describe.proofs.evidence.list_device_evidence.Goals as goal

pub loop-id-init : goal.loop-id-init
loop-id-init c = (
  search rules,
  record {
    kinds = listed_none _ _ _ _;
    sources = listed_none _ _ _ _;
    sinks = listed_none _ _ _ _;
    components = listed_none _ _ _ _;
    blocks = listed_none _ _ _ _;
  },
  placed_none _ _,
)

pub loop-id-preserved-then-is_device : goal.loop-id-preserved-then-is_device
loop-id-preserved-then-is_device c =
    let kinds = c.args.components.now.kinds.now in
    let t = zip_turn c.args.components.now.ids.now kinds c.loop-id.yielded _ _ c.next.new.self _ (cc) (cc) c.loop-id.yielded_by _ c.in-Some.is c.next.ensures.steps in
    let m = c.loop-id.invariant.1 in
    let p = c.loop-id.invariant.2 in
    let e = taken kinds (length c.loop-id.yielded) (sym c.if-is_device.true ∙ c.is_device.ensures ∙ ap (λ k. is_device (kind_row k)) (t.3 0)) in
    rw (length-append c.loop-id.yielded) (
      search rules,
      record {
        kinds = listed_more m.kinds e p (omega arith) c.from.ensures;
        sources = listed_more m.sources e p (omega arith) refl;
        sinks = listed_more m.sinks e p (omega arith) refl;
        components = listed_more m.components e p (omega arith) (t.2 0);
        blocks = listed_more m.blocks e p (omega arith) (t.3 0);
      },
      placed_more p e,
    )

pub loop-id-preserved : goal.loop-id-preserved
loop-id-preserved c =
    let kinds = c.args.components.now.kinds.now in
    let t = zip_turn c.args.components.now.ids.now kinds c.loop-id.yielded _ _ c.next.new.self _ (cc) (cc) c.loop-id.yielded_by _ c.in-Some.is c.next.ensures.steps in
    let m = c.loop-id.invariant.1 in
    let e = passed kinds (length c.loop-id.yielded) (sym c.if-is_device.false ∙ c.is_device.ensures ∙ ap (λ k. is_device (kind_row k)) (t.3 0)) in
    rw (length-append c.loop-id.yielded) (
      c.loop-id.invariant.0,
      record {
        kinds = listed_same m.kinds e;
        sources = listed_same m.sources e;
        sinks = listed_same m.sinks e;
        components = listed_same m.components e;
        blocks = listed_same m.blocks e;
      },
      placed_same c.loop-id.invariant.2 e,
    )
