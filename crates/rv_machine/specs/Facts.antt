-- What the laws of the crates below say of values, decisions and memory under layouts, and of instructions.
use Rattle.value_laws.specs.DecisionLaws.{OrderHolds, SignedOrderHolds, EqualityHolds}
use Rattle.value_laws.specs.LayoutLaws.{AddressesAreWhole, PlacesGoOn, SlotsLieInRegion}
use Rattle.value_laws.specs.MemoryLaws.{CellsStand, LoadedStands, NumbersStand, PointerLoads, OutsideLoads, PointerStores, OutsideStores, StoreMatches}
use Rattle.value_laws.specs.OperationLaws.{GivesWords, LiftIsSound}
use Rattle.rv_decode.specs.Laws.{RowsAreInRange}

pub record Facts : Type 0 where
  pub words : GivesWords
  pub lift : LiftIsSound
  pub unsigned : OrderHolds
  pub signed : SignedOrderHolds
  pub equal : EqualityHolds
  pub cells : CellsStand
  pub numbers : NumbersStand
  pub loaded : LoadedStands
  pub pointer_loads : PointerLoads
  pub outside_loads : OutsideLoads
  pub pointer_stores : PointerStores
  pub outside_stores : OutsideStores
  pub store : StoreMatches
  pub whole : AddressesAreWhole
  pub along : PlacesGoOn
  pub region : SlotsLieInRegion
  pub rows : RowsAreInRange
