pub mod HeadTrips
pub mod NumberTrips
pub mod SheetTrips
pub mod SlotTrips
pub mod SlotsTrips
pub mod WriteSlots
