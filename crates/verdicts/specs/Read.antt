-- An event, a pulse and a contract, as the rules speak of them. Assumes nothing: these are definitions.
use Rattle.rules.specs.Pulses as Rules
use Rattle.rules.specs.Verdicts as Judged
use Rattle.verdicts.specs.declared.pulse.Event.{Event}
use Rattle.verdicts.specs.declared.pulse.Pulse.{Pulse}
use Rattle.verdicts.specs.declared.contract.Contract.{Contract}

abbrev pub event_read : Event → Rules.Event
event_read e = record { index = e.index; tick = e.tick; component = e.component; powered = e.powered }

abbrev pub pulse_read : Pulse → Rules.Pulse
pulse_read p =
    record {
      component = p.component;
      polarity = p.polarity;
      unit = p.unit;
      start_tick = p.start_tick;
      end_tick = p.end_tick;
      width = p.width;
      steady = p.steady;
      baseline_event = p.baseline_event;
      start_event = p.start_event;
      end_event = p.end_event;
    }

abbrev pub contract_read : Contract → Judged.Contract
contract_read c =
    record {
      component = c.component;
      intent = c.intent;
      powered = c.powered;
      polarity = c.polarity;
      unit = c.unit;
      smallest = c.smallest;
      largest = c.largest;
    }
