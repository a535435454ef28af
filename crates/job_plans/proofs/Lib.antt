mod Coming
mod News
