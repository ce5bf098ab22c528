use Rattle.std.proofs.Common.{◌≡◌, ◌↔◌, ◌&&◌, Bool, true, false, nat_eq, refl, rules, ap, Option, Some, None}
use Rattle.std.proofs.Common.{int_eq}
use Rattle.std.specs.Option.{option_eq}
use Rattle.cax64_sink.proofs.Equality.{same_trap_code}
use Rattle.cax64_sink.specs.declared.DeferredTarget.{DeferredTarget}
use Rattle.cax64_sink.specs.declared.TrapCode.{TrapCode}
use Rattle.cax64_sink.specs.contracts.DeferredTargetPartialEq.TheImpl as target
use Rattle.cax64_sink.specs.contracts.TrapCodePartialEq.TheImpl as trap
use Rattle.cax64_address.specs.contracts.amode.ScalePartialEq.TheImpl as scale
use Rattle.cax64_address.specs.contracts.offset.AmodeOffsetPlusKnownOffsetPartialEq.TheImpl as late
use Rattle.cax64_address.specs.declared.amode.Scale.{Scale}
use Rattle.cax64_address.specs.declared.offset.AmodeOffset.{AmodeOffset}
use Rattle.cax64_address.specs.declared.offset.AmodeOffsetPlusKnownOffset.{AmodeOffsetPlusKnownOffset}

-- a test tells whether something holds
abbrev pub Tells : Bool → Type 0 → Type 0
Tells test P = (test ≡ true) ↔ P

both : (a b : Bool) → (a && b) ≡ true → (a ≡ true) × (b ≡ true)
both true b h = (refl, h)
both false b h = cc

joined : (a b : Bool) → a ≡ true → b ≡ true → (a && b) ≡ true
joined true b h k = k
joined false b h k = cc

pub tells_three : {P Q R : Type 0} (a b c : Bool) → Tells a P → Tells b Q → Tells c R → Tells (a && (b && c)) (P × Q × R)
tells_three a b c p q r = (
  λ h. let first = both a (b && c) h in let later = both b c first.1 in (p.0 first.0, q.0 later.0, r.0 later.1),
  λ h. joined a (b && c) (p.1 h.0) (joined b c (q.1 h.1) (r.1 h.2)),
)

pub tells_five : {P Q R S T : Type 0} (a b c d e : Bool) → Tells a P → Tells b Q → Tells c R → Tells d S → Tells e T → Tells (a && (b && (c && (d && e)))) (P × Q × R × S × T)
tells_five a b c d e p q r s t = (
  λ h.
      let first = both a (b && (c && (d && e))) h in
      let second = both b (c && (d && e)) first.1 in
      let later = (tells_three c d e r s t).0 second.1 in
      (p.0 first.0, q.0 second.0, later.0, later.1, later.2),
  λ h. joined a (b && (c && (d && e))) (p.1 h.0) (joined b (c && (d && e)) (q.1 h.1) ((tells_three c d e r s t).1 (h.2, h.3, h.4))),
)

pub tells_itself : (a : Bool) → Tells a (a ≡ true)
tells_itself a = (λ h. h, λ h. h)

pub tells_target : (a b : DeferredTarget) → Tells ((target.ghosts).eq a b) (a ≡ b)
tells_target a b = search rules

pub tells_scale : (a b : Scale) → Tells ((scale.ghosts).eq a b) (a ≡ b)
tells_scale a b = search rules

pub tells_late : (a b : AmodeOffsetPlusKnownOffset) → Tells ((late.ghosts).eq a b) (a ≡ b)
tells_late a b = search rules

pub tells_offset : (a b : AmodeOffset) → Tells (int_eq a b) (a ≡ b)
tells_offset a b = search rules

equal_code : (a : TrapCode) → nat_eq a.0.value a.0.value ≡ true
equal_code a = search rules

some_code : (a b : TrapCode) → ◌≡◌ {A = Option TrapCode} (Some a) (Some b) → a ≡ b
some_code a b e = cc

pub tells_trap : (a b : Option TrapCode) → Tells (option_eq (trap.ghosts).eq a b) (a ≡ b)
tells_trap None None = (λ h. refl, λ h. refl)
tells_trap None (Some b) = (λ h. cc, λ h. cc)
tells_trap (Some a) None = (λ h. cc, λ h. cc)
tells_trap (Some a) (Some b) = (λ h. ap (λ (x : TrapCode). Some x) (same_trap_code a b h), λ h. rw (some_code a b h) (equal_code b))
