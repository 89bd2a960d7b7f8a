mod PlacedLaws
mod OpenLaws
