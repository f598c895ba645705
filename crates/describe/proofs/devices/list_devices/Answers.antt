-- The components are gone through in order. Assumes nothing.
use Rattle.std.proofs.Common.{refl, sym, ◌∙◌, arith, rules}
use Rattle.describe.proofs.DeviceSteps.{taken, passed, placed_none, placed_more, placed_same, listed_none, listed_more, listed_same}
use Rattle.describe.proofs.devices.list_devices.Goals.{then-is_device, else-is_device}
use Rattle.describe.proofs.devices.list_devices.Goals as goal

pub loop-i-init : goal.loop-i-init
loop-i-init c = (
  search rules,
  record {
    components = listed_none _ _ 0 _;
    xs = listed_none _ _ 0 _;
    ys = listed_none _ _ 0 _;
    zs = listed_none _ _ 0 _;
    semantics = listed_none _ _ 0 _;
    delays = listed_none _ _ 0 _;
  },
  placed_none _ 0,
)

pub loop-i-preserved : goal.loop-i-preserved
loop-i-preserved c =
    let kinds = c.args.components.now.kinds.now in
    let m = c.loop-i.invariant.1 in
    let p = c.loop-i.invariant.2 in
    elim c.if-is_device.branch [
      | then-is_device w ↦
          let e = taken kinds c.loop-i.i (sym w.if-is_device.true ∙ c.is_device.ensures) in
          rw (w.devices-is, w.count-is) (
            search rules,
            record {
              components = listed_more m.components e p (omega arith) refl;
              xs = listed_more m.xs e p (omega arith) (search rules);
              ys = listed_more m.ys e p (omega arith) (search rules);
              zs = listed_more m.zs e p (omega arith) (search rules);
              semantics = listed_more m.semantics e p (omega arith) w.meaning_code.ensures;
              delays = listed_more m.delays e p (omega arith) w.component_delay.ensures;
            },
            placed_more p e,
          )
      | else-is_device w ↦
          let e = passed kinds c.loop-i.i (sym w.if-is_device.false ∙ c.is_device.ensures) in
          rw (w.devices-is, w.count-is) (
            c.loop-i.invariant.0,
            record {
              components = listed_same m.components e;
              xs = listed_same m.xs e;
              ys = listed_same m.ys e;
              zs = listed_same m.zs e;
              semantics = listed_same m.semantics e;
              delays = listed_same m.delays e;
            },
            placed_same p e,
          )
    ]
